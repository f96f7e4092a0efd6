-- What a walk over some frames goes by: the first frame names a place further on in the payload, and what comes after it is what comes from
-- there. Assumes nothing.
use Prim.Native.Nat.{ℕ, zero, suc, ◌+◌, ◌≤◌, ◌<◌}
use lib.ListN.{length}
use mathlib.Core.List.{List, [], ◌∷◌}
use mathlib.Core.Path.{◌≡◌, refl, sym, ap}
use native.Mathlib.Omega.{arith}
use Rattle.std.specs.Prelude.{None, Some}
use Rattle.rows.specs.Frames.{Placed, first_of}
use Rattle.rows.specs.declared.NextFrame.{NextFrame}

-- of a frame f from a place on in a payload of n bytes, and the frames after it; g gives the frames from each place on
pub record Onward (g : ℕ → List Placed) (n from : ℕ) (f : Placed) (fs : List Placed) : Type 0 where
  pub rest : g f.next ≡ fs
  pub further : from < f.next
  pub inside : f.next ≤ n
  pub mpdu_inside : f.frame.mpdu ≤ n

unfoldable pub Goes : (ℕ → List Placed) → ℕ → ℕ → List Placed → Type 0
Goes g n from [] = Unit
Goes g n from (f ∷ fs) = Onward g n from f fs

-- where nothing lies between, the walk may start earlier
pub earlier : (g : ℕ → List Placed) (n a b : ℕ) → a ≤ b → (fs : List Placed) → Goes g n b fs → Goes g n a fs
unfolding Goes
earlier g n a b h [] o = tt
earlier g n a b h (f ∷ fs) o = record { rest = o.rest; further = omega (arith, o.further); inside = o.inside; mpdu_inside = o.mpdu_inside }

module _ (g : ℕ → List Placed) (n : ℕ) (goes : (from : ℕ) → Goes g n from (g from)) where
  -- what the first frame says
  first_by : (from : ℕ) (fs : List Placed) → Goes g n from fs → (x : NextFrame) → first_of fs ≡ Some x
      → (fs ≡ record { frame = x.frame; next = x.next } ∷ g x.next) × (from < x.next) × (x.next ≤ n) × (x.frame.mpdu ≤ n)
  unfolding Goes
  first_by from [] o x e = absurd cc
  first_by from (f ∷ fs) o x e =
      let is : x ≡ record { frame = f.frame; next = f.next } = cc in
      rw is (ap (λ (l : List Placed). f ∷ l) (sym o.rest), o.further, o.inside, o.mpdu_inside)

  pub first_frame : (from : ℕ) (x : NextFrame) → Some x ≡ first_of (g from)
      → (g from ≡ record { frame = x.frame; next = x.next } ∷ g x.next) × (from < x.next) × (x.next ≤ n) × (x.frame.mpdu ≤ n)
  first_frame from x e = first_by from (g from) (goes from) x (sym e)

  none_by : (fs : List Placed) → first_of fs ≡ None → fs ≡ []
  none_by [] e = refl
  none_by (f ∷ fs) e = absurd cc

  pub no_frame_lem : (from : ℕ) → None ≡ first_of (g from) → g from ≡ []
  no_frame_lem from e = none_by (g from) (sym e)

  -- there are no more frames than bytes
  count_one : (t from : ℕ) (fs : List Placed) → Goes g n from fs → ((next : ℕ) → from < next → next ≤ n → suc (length (g next)) ≤ t) → length fs ≤ t
  unfolding Goes
  count_one t from [] o h = omega arith
  count_one t from (f ∷ fs) o h = omega (arith, h f.next o.further o.inside, ap length o.rest)

  count_by : (t from : ℕ) → n ≤ from + t → length (g from) ≤ t
  count_by zero from h = count_one zero from (g from) (goes from) (λ next l m. absurd (omega arith))
  count_by (suc t) from h = count_one (suc t) from (g from) (goes from) (λ next l m. let r : length (g next) ≤ t = count_by t next (omega arith) in omega arith)

  pub count_most : length (g 0) ≤ n
  count_most = count_by n 0 (omega arith)
