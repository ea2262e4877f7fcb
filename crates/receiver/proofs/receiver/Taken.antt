-- What a receiver takes at once comes to the same as its bytes one after the other.
use Rattle.std.proofs.Common.{◌≡◌, ℕ, zero, suc, ◌+◌, ◌-◌, ◌<◌, ◌≤◌, Bool, true, false, cond, eqb, ltb, List, [], ◌∷◌, length, get_or, take, drop, refl, ap, ◌∙◌, arith, length-drop, drop-drop, ltb-false, ltb-true, ne_eqb}
use lib.Seq.{drop-length}
use Rattle.sections.specs.Partial.{partial_of, Partial}
use Rattle.receiver.specs.Place.{with_phase, onwards, Phase, Header, Body, Padding, Complete, Exceeded, Refused, Place}
use Rattle.receiver.specs.Receiver.{at_place, stepped, fed, looked, padding_step, Receiver}
use Rattle.receiver.specs.Steps.{Taken, body_place, body_used, header_bytes}
use Rattle.receiver.proofs.receiver.Fed.{fed-step, fed_exceeded, fed-refused, fed_complete, fed_body, fed_none, fed_all}
use Rattle.receiver.proofs.receiver.Sound.{Fits, sound_fits, fits_sound, there_fits, looked_fits, stepped_fits}
use Rattle.receiver.proofs.receiver.Whole.{look_at, whole_header}

module _ (r : Receiver) (s : List ℕ) (f : Fits r.place) where
  -- one byte
  pub one_taken : (ph : Phase) → r.place.phase ≡ ph → 0 < length s → Taken r s (stepped ph r (get_or s 0 0)) 1
  one_taken ph e some = record { same = go s some; whole = fits_sound _ (stepped_fits r f.0 (get_or s 0 0) ph e); some = omega arith; within = some }
    where
      go : (l : List ℕ) → 0 < length l → fed r l ≡ fed (stepped ph r (get_or l 0 0)) (drop 1 l)
      go [] any = absurd (omega arith)
      go (b ∷ l) any = fed-step r b l e

  -- all
  end_taken : (x : Receiver) → fed r s ≡ x → Fits x.place → 0 < length s → Taken r s x (length s)
  unfolding fed
  end_taken x e g some = record { same = rw (drop-length s) e; whole = fits_sound x g; some = some; within = omega arith }

  pub exceeded_taken : r.place.phase ≡ Exceeded → 0 < length s → Taken r s r (length s)
  exceeded_taken e = end_taken r (fed_exceeded r s e) f

  pub refused_taken : {n : ℕ} → r.place.phase ≡ Refused n → 0 < length s → Taken r s r (length s)
  refused_taken e = end_taken r (fed-refused r s e) f

  pub complete_taken : r.place.phase ≡ Complete → 0 < length s → Taken r s (at_place r (with_phase r.place Exceeded)) (length s)
  complete_taken e some = end_taken (at_place r (with_phase r.place Exceeded)) (fed_complete r s e some) (f.0, omega arith) some

  pub padding_taken : {n : ℕ} {p : Place} → r.place.phase ≡ Padding n → p ≡ padding_step r.place n (get_or s 0 0) → 0 < length s → Taken r s (at_place r p) 1
  unfolding stepped
  padding_taken {n} e p some = rw p (one_taken (Padding n) e some)

  pub body_taken : {n used : ℕ} {p : Place} → r.place.phase ≡ Body n → p ≡ body_place r.place n (length s) → used ≡ body_used n (length s)
      → 0 < length s → Taken r s (at_place r p) used
  unfolding body_place body_used
  body_taken {n} e p u some = rw (p, u) (go n (ltb (length s) n) e refl)
    where
      go : (m : ℕ) (b : Bool) → r.place.phase ≡ Body m → ltb (length s) m ≡ b
          → Taken r s (at_place r (cond b (with_phase r.place (Body (m - length s))) (onwards r.place))) (cond b (length s) (cond (eqb m 0) 1 m))
      go m true e k =
          record {
            same = fed_body (length s) m r s e (ltb-true (length s) m k) (omega arith);
            whole = fits_sound _ (f.0, omega arith);
            some = some;
            within = omega arith;
          }
      go zero false e k = record { same = fed_none r s e some; whole = fits_sound _ (there_fits r.place f.0); some = omega arith; within = some }
      go (suc m) false e k =
          let enough = ltb-false (length s) (suc m) k in
          rw (ne_eqb (suc m) 0 (λ z. omega arith))
          (record { same = fed_all r m s e enough; whole = fits_sound _ (there_fits r.place f.0); some = omega arith; within = enough })

  -- a header, whatever was held before
  looked_found : (held : List ℕ) (have : ℕ) (look : Partial) → (look ≡ Partial.Waiting → ⊥) → looked r r.header have look ≡ looked r held have look
  unfolding looked
  looked_found held have Partial.Waiting o = absurd (o refl)
  looked_found held have (Partial.Fault n) o = refl
  looked_found held have (Partial.Closed t first e) o = refl
  looked_found held have (Partial.Open t first from e) o = refl

  pub header_taken : {header : List ℕ} {used : ℕ} {x : Receiver} → r.place.phase ≡ Header 0 → length r.header ≡ 28 → 28 ≤ length s → header ≡ take 28 s
      → used ≡ header_bytes (partial_of r.mode header 28 r.place.left)
      → x ≡ looked r r.header (header_bytes (partial_of r.mode header 28 r.place.left)) (partial_of r.mode header 28 r.place.left) → Taken r s x used
  header_taken {header} e held enough h u q =
      let w = whole_header r s e held enough in
      rw (q, u, h, looked_found (take 28 s) (header_bytes (look_at r s)) (look_at r s) w.3)
      (record {
        same = w.0;
        whole = fits_sound _ (looked_fits r f.0 (take 28 s) (header_bytes (look_at r s)) (look_at r s) (λ z. absurd (w.3 z)));
        some = w.1;
        within = omega (arith, w.2, enough);
      })

-- some, and then of the body that comes next
pub section_taken : {r x : Receiver} {s : List ℕ} {u n used : ℕ} {p : Place} → Taken r s x u → x.place.phase ≡ Body n → u < length s
    → p ≡ body_place x.place n (length s - u) → used ≡ body_used n (length s - u) → Taken r s (at_place x p) (u + used)
section_taken {r} {x} {s} {u} {n} {used} {p} a e more q v = let l = length-drop u s in both (body_taken x (drop u s) (sound_fits x a.whole) e (rw l q) (rw l v) (omega (arith, l)))
  where
    both : Taken x (drop u s) (at_place x p) used → Taken r s (at_place x p) (u + used)
    both b =
        let w = b.within in
        let i = a.within in
        let m = a.some in
        let l = length-drop u s in
        record { same = a.same ∙ b.same ∙ ap (fed (at_place x p)) (drop-drop used u s); whole = b.whole; some = omega (arith, m); within = omega (arith, w, l, i) }
