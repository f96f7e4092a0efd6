-- A walk over the frames of a record's payload: it goes on from the place that the last frame named, and there are no more frames than
-- bytes. Assumes nothing.
use Prim.Native.Nat.{ℕ, ◌+◌, ◌≤◌, ◌<◌}
use lib.Dec.{eqb}
use lib.ListN.{length}
use mathlib.Core.Bool.{Bool, true, false, ◌||◌, cond}
use mathlib.Core.List.{List, [], ◌∷◌}
use mathlib.Core.Path.{◌≡◌, refl, ap}
use native.Mathlib.Omega.{arith}
use Rattle.std.specs.Prelude.{None, Some}
use Rattle.rows.specs.Frames.{first_of, pti_from, zniffer_from, frames_from}
use Rattle.rows.specs.declared.NextFrame.{NextFrame}
use Rattle.rows.proofs.Goes.{Goes, first_frame, no_frame_lem, count_most}
use Rattle.rows.proofs.Pti as pti
use Rattle.rows.proofs.Zniffer as zniffer

module _ (kind : ℕ) (out : Bool) (p : List ℕ) where
  chosen : (a b : Bool) (from : ℕ) → Goes (λ (k : ℕ). cond a (pti_from p k) (cond b (zniffer_from out p k) [])) (length p) from (cond a (pti_from p from) (cond b (zniffer_from out p from) []))
  unfolding Goes
  chosen true b from = pti.goes p from
  chosen false true from = zniffer.goes out p from
  chosen false false from = tt

  goes : (from : ℕ) → Goes (frames_from kind out p) (length p) from (frames_from kind out p from)
  unfolding frames_from
  goes from = chosen (eqb kind 1 || eqb kind 2) (eqb kind 3) from

  -- a frame, and the frames after it
  pub one_more_lem : (from : ℕ) (x : NextFrame) → Some x ≡ first_of (frames_from kind out p from)
      → (frames_from kind out p from ≡ record { frame = x.frame; next = x.next } ∷ frames_from kind out p x.next) × (from < x.next) × (x.next ≤ length p) × (x.frame.mpdu ≤ length p)
  one_more_lem = first_frame (frames_from kind out p) (length p) goes

  pub none_left : (from : ℕ) → None ≡ first_of (frames_from kind out p from) → frames_from kind out p from ≡ []
  none_left = no_frame_lem (frames_from kind out p) (length p) goes

  pub at_most : length (frames_from kind out p 0) ≤ length p
  at_most = count_most (frames_from kind out p) (length p) goes

  past_by : (a b : Bool) (from : ℕ) → length p ≤ from → cond a (pti_from p from) (cond b (zniffer_from out p from) []) ≡ []
  past_by true b from h = pti.past_end p from h
  past_by false true from h = zniffer.past_end out p from h
  past_by false false from h = refl

  pub past_end : (from : ℕ) → length p ≤ from → frames_from kind out p from ≡ []
  unfolding frames_from
  past_end from h = past_by (eqb kind 1 || eqb kind 2) (eqb kind 3) from h

  -- the PTI kinds
  pub is_pti_lem : (from : ℕ) → (eqb kind 1 || eqb kind 2) ≡ true → pti_from p from ≡ frames_from kind out p from
  unfolding frames_from
  is_pti_lem from e = rw e

  -- the same of how many there are
  pub counted : (from : ℕ) (x : NextFrame) → Some x ≡ first_of (frames_from kind out p from)
      → (from < x.next) × (x.next ≤ length p) × (length (frames_from kind out p from) ≡ length (frames_from kind out p x.next) + 1)
  counted from x e = let step = one_more_lem from x e in (step.1, step.2, omega (arith, ap length step.0))

  pub none_counted : (from : ℕ) → None ≡ first_of (frames_from kind out p from) → length (frames_from kind out p from) ≡ 0
  none_counted from e = ap length (none_left from e)
