-- The header at the place where a receiver stands: what its bytes in the window say, the stream and the file say too; and the bytes after which its
-- faults are found.
use Rattle.std.proofs.Common.{◌≡◌, ℕ, ◌+◌, ◌-◌, ◌≤◌, List, length, get_or, drop, sym, ap, ◌∙◌, zero-add, arith, get_or-drop, ne_eqb}
use Rattle.sections.specs.Header.{type_at, head_in, head_at, Head, Fault, Closed, Open}
use Rattle.sections.specs.Partial.{bytes_for, bytes_for_head, needed}
use Rattle.sections.specs.declared.header.Mode.{Mode}
use Rattle.sections.proofs.header.Cases.{fault_range}
use Rattle.sections.proofs.header.Extent.{is_open}
use Rattle.sections.proofs.partial.Agree.{moved, agree, shifted, needed_left}
use Rattle.receiver.specs.Received.{found_after}
use Rattle.receiver.proofs.place.Padded.{InFile}
use Rattle.receiver.proofs.place.Standing.{Window}

moved_fault : (a : ℕ) (v : Head) {n : ℕ} → moved a v ≡ Fault n → v ≡ Fault n
moved_fault a (Fault m) p = p
moved_fault a (Closed t f e) p = let z : ◌≡◌ {A = ℕ} 0 1 = cc in absurd (omega arith)
moved_fault a (Open t f g e) p = let z : ◌≡◌ {A = ℕ} 0 1 = cc in absurd (omega arith)

pub record Moved (a : ℕ) (v : Head) (t f g e : ℕ) : Type 0 where
  pub first : ℕ
  pub from : ℕ
  pub end : ℕ
  pub same : v ≡ Open t first from end

moved_open : (a : ℕ) (v : Head) {t f g e : ℕ} → moved a v ≡ Open t f g e → Moved a v t f g e
moved_open a (Fault m) p = let z : ◌≡◌ {A = ℕ} 0 1 = cc in absurd (omega arith)
moved_open a (Closed t f e) p = let z : ◌≡◌ {A = ℕ} 0 1 = cc in absurd (omega arith)
moved_open a (Open u x y z) {t} p = let q : u ≡ t = cc in record { first = x; from = y; end = z; same = rw q }

-- as many bytes as what stands there needs
pub needed_by : (mode : Mode) (left : ℕ) (x : List ℕ) (a : ℕ) {v : Head} → head_in mode left x a ≡ v → needed mode left x a ≡ bytes_for_head mode left x a v
unfolding needed
needed_by mode left x a p = ap (bytes_for_head mode left x a) p

module _ (mode : Mode) (file s : List ℕ) (base k left : ℕ) (stream : InFile file s base) (inside : k ≤ length s) (behind : left ≡ length s - k) (four : 4 ≤ left) where
  -- the header that stands in the stream
  pub as_head : {v : Head} → head_in mode left s k ≡ v → head_at mode s k ≡ v
  unfolding head_at
  as_head p = rw behind at p

  -- the same in the file
  in_file : (head_in mode left file (base + k) ≡ moved (base + k) (head_in mode left (drop k s) 0)) × (needed mode left file (base + k) ≡ needed mode left s k)
  in_file =
      let sh = shifted mode left s k in
      let n = needed_left mode left s k four in
      let ag = agree mode left file (drop k s) (base + k) left
      (λ j h. let q : base + k + j ≡ base + (k + j) = omega arith in rw q (sym (stream.bytes (k + j) (omega arith)) ∙ sym (get_or-drop k s j 0))) (omega (arith, sh.1)) in
      (ag.0, ag.1 ∙ sym sh.1)

  -- a fault of the header is found once the bytes came that decide it
  pub due : {n : ℕ} → head_in mode left s k ≡ Fault n → found_after mode file n (base + k) (base + length s) ≡ base + k + needed mode left s k
  unfolding found_after bytes_for_head
  due {n} p =
      let r = fault_range mode s k n (as_head p) in
      let f = in_file in
      let d : base + length s - (base + k) ≡ left = omega arith in
      let v = moved_fault k (head_in mode left (drop k s) 0) (sym (shifted mode left s k).0 ∙ p) in
      let h : head_in mode left file (base + k) ≡ Fault n = f.0 ∙ ap (moved (base + k)) v in
      rw (ne_eqb n 206 (λ z. omega arith), ne_eqb n 207 (λ z. omega arith), d) (ap (λ (m : ℕ). base + k + m) (sym (needed_by mode left file (base + k) h) ∙ f.1))

  pub due_205 : {t f g e : ℕ} → head_in mode left s k ≡ Open t f g e → found_after mode file 205 (base + k) (base + length s) ≡ base + k + needed mode left s k
  unfolding found_after bytes_for bytes_for_head
  due_205 {t} p =
      let f = in_file in
      let v = moved_open k (head_in mode left (drop k s) 0) (sym (shifted mode left s k).0 ∙ p) in
      let h : head_in mode left file (base + k) ≡ Open t (base + k + v.first) (base + k + v.from) (base + k + v.end) = f.0 ∙ ap (moved (base + k)) v.same in
      let q : base + k + 3 ≡ base + (k + 3) = omega arith in
      let u : type_at file (base + k) ≡ t = rw q (sym (stream.bytes (k + 3) (omega arith)) ∙ sym (is_open mode s k (as_head p)).typed) in
      rw u (ap (λ (m : ℕ). base + k + m) (sym (needed_by mode left file (base + k) h) ∙ f.1))

  -- and the window, with the first bytes
  module _ (y : List ℕ) (K : ℕ) (window : Window mode file s k K y) where
    pub forward : needed mode left y 0 ≤ K
        → (head_in mode left s k ≡ moved k (moved 0 (head_in mode left y 0))) × (needed mode left s k ≡ needed mode left y 0)
    forward enough =
        let sh = shifted mode left s k in
        let ag = agree mode left (drop k s) y 0 K (λ j h. ap (λ (i : ℕ). get_or (drop k s) i 0) (zero-add j) ∙ get_or-drop k s j 0 ∙ window j h) enough in
        (sh.0 ∙ ap (moved k) ag.0, sh.1 ∙ ag.1)

    pub backward : needed mode left s k ≤ K → needed mode left y 0 ≡ needed mode left s k
    backward enough =
        let sh = shifted mode left s k in
        (agree mode left y (drop k s) 0 K (λ j h. ap (λ (i : ℕ). get_or y i 0) (zero-add j) ∙ sym (get_or-drop k s j 0 ∙ window j h)) (omega (arith, sh.1))).1 ∙ sym sh.1
