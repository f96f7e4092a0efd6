-- A frame's MPDU lies inside its body. Assumes nothing.
use Prim.Native.Nat.{ℕ, ◌+◌, ◌-◌, ◌<◌, ◌≤◌}
use lib.Dec.{eqb, ltb, leb}
use lib.ListN.{length, take, drop, get_or, length-drop}
use lib.Seq.{length-take-le}
use mathlib.Core.Bool.{Bool, true, false, ◌&&◌, cond}
use mathlib.Core.List.{List}
use mathlib.Core.Path.{◌≡◌, subst}
use native.Mathlib.Omega.{arith}
use borrow.Author.Tests.{leb-true, ltb-true}
use Rattle.std.specs.Prelude.{Option, None, Some}
use Rattle.pti.specs.Frame.{tail_size, is_beam, mpdu_length, accepted, fields_of, parts_of, sided_of, tagged_of, frame_of}
use Rattle.pti.specs.declared.PtiFrame.{PtiFrame}
use Rattle.choice.proofs.Choice.{right_true, by_choice}

-- what a body of so many bytes may hold
pub Holds : ℕ → Option PtiFrame → Type 0
Holds n (Some f) = f.mpdu + f.mpdu_len ≤ n
Holds n None = Unit

within : (n len : ℕ) (b : Bool) → cond (b && leb len n) len n ≤ n
within n len b =
    by_choice (λ (k : ℕ). k ≤ n) (b && leb len n) {a = len} {b = n}
    (λ (e : (b && leb len n) ≡ true). leb-true len n (right_true b (leb len n) e))
    (λ (e : (b && leb len n) ≡ false). omega arith)

pub mpdu_length_within : (part : List ℕ) → mpdu_length part ≤ length part
mpdu_length_within part =
    by_choice (λ (k : ℕ). k ≤ length part) (is_beam part) {a = length part}
    {b = cond (ltb 7 (length part) && leb (get_or part 7 0) (length part)) (get_or part 7 0) (length part)}
    (λ (e : is_beam part ≡ true). omega arith)
    (λ (e : is_beam part ≡ false). within (length part) (get_or part 7 0) (ltb 7 (length part)))

parts_hold : (n place : ℕ) (sent : Bool) (part tail : List ℕ) → place + length part ≤ n → Holds n (parts_of place sent part tail)
unfolding Holds parts_of
parts_hold n place sent part tail h =
    by_choice (Holds n) (accepted sent part tail) {a = Some (fields_of place sent part tail)} {b = None}
    (λ (e : accepted sent part tail ≡ true). omega (arith, mpdu_length_within part))
    (λ (e : accepted sent part tail ≡ false). tt)

module _ (body : List ℕ) where
  sided_holds : (header : ℕ) (sent : Bool) → Holds (length body) (sided_of header sent body)
  unfolding sided_of Holds
  sided_holds header sent =
      let size = length body - tail_size sent - header in
      let part = take size (drop header body) in
      let tail = drop (length body - tail_size sent) body in
      by_choice (Holds (length body)) (ltb (header + tail_size sent) (length body)) {a = parts_of header sent part tail} {b = None}
      (λ (e : ltb (header + tail_size sent) (length body) ≡ true).
      let l : header + tail_size sent < length body = ltb-true (header + tail_size sent) (length body) e in
      let r : length part ≡ size = length-take-le size (drop header body) (simp length-drop (omega arith)) in
      parts_hold (length body) header sent part tail (omega arith))
      (λ (e : ltb (header + tail_size sent) (length body) ≡ false). tt)

  choice : (a b : Bool) (x y : Option PtiFrame) → Holds (length body) x → Holds (length body) y → Holds (length body) (cond a x (cond b y None))
  unfolding Holds
  choice true b x y h k = h
  choice false true x y h k = k
  choice false false x y h k = tt

  tagged_holds : (header : ℕ) → Holds (length body) (tagged_of header body)
  unfolding tagged_of
  tagged_holds header =
      choice (eqb (get_or body (header - 1) 0) 0xF8) (eqb (get_or body (header - 1) 0) 0xFC) (sided_of header false body) (sided_of header true body)
      (sided_holds header false) (sided_holds header true)

  pub frame_holds : Holds (length body) (frame_of body)
  unfolding frame_of
  frame_holds =
      choice (eqb (get_or body 0 0) 2) (eqb (get_or body 0 0) 3) (tagged_of 12 body) (tagged_of 19 body) (tagged_holds 12) (tagged_holds 19)

  -- a frame's MPDU lies inside the body
  pub mpdu_inside : (f : PtiFrame) → frame_of body ≡ Some f → f.mpdu + f.mpdu_len ≤ length body
  unfolding Holds
  mpdu_inside f e = subst (Holds (length body)) e frame_holds
