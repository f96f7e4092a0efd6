-- The frames of a payload's bodies: a step's part in them, and that a walk over them goes on. Assumes nothing.
use Prim.Native.Nat.{ℕ, zero, suc, ◌+◌, ◌-◌, ◌≤◌, ◌<◌}
use borrow.Author.Tests.{ltb-true}
use lib.Dec.{ltb}
use lib.ListN.{length, take, drop, length-drop}
use lib.Seq.{length-take-le}
use mathlib.Core.Bool.{true, false}
use mathlib.Core.List.{List, [], ◌++◌, flat_map}
use mathlib.Core.Path.{◌≡◌, refl, sym, ap, subst, ◌∙◌}
use native.Mathlib.Omega.{arith}
use Rattle.choice.proofs.Choice.{by_choice}
use Rattle.bracket.proofs.Splitting.{head, body_inside, next_further, next_inside}
use Rattle.bracket.proofs.Walks.{outside}
use Rattle.pti.proofs.Mpdus.{mpdu_inside}
use Rattle.bracket.specs.Bracket.{length_at, next_at, good, Piece, body_at, walk, bodies_from, step_at, next_record}
use Rattle.pti.specs.Frame.{frame_of}
use Rattle.bracket.specs.declared.Body.{Body}
use Rattle.pti.specs.declared.PtiFrame.{PtiFrame}
use Rattle.std.specs.Prelude.{Option, None, Some}
use Rattle.rows.specs.Frames.{shifted, held_by, held_in, pti_from, first_of}
use Rattle.rows.proofs.Goes.{Goes, earlier}

-- one byte stands between a body and the next place
Closed : Option Body → Type 0
Closed (Some b) = b.next ≡ b.at + b.len + 1
Closed None = Unit

module _ (p : List ℕ) where
  closed_walk : (n at : ℕ) → Closed (walk (step_at p) None p n at)
  unfolding walk Closed
  closed_walk zero at = tt
  closed_walk (suc n) at =
      let later = walk (step_at p) None p n (next_at p at) in
      let here : Body = record { at = at + 3; len = length_at p at - 2; next = next_at p at } in
      by_choice Closed (good p at) {a = step_at p at later} {b = None}
      (λ (g : good p at ≡ true).
      by_choice Closed (ltb 1 (length_at p at)) {a = Some here} {b = later}
      (λ (m : ltb 1 (length_at p at) ≡ true). let l : 1 < length_at p at = ltb-true 1 (length_at p at) m in omega arith)
      (λ (m : ltb 1 (length_at p at) ≡ false). closed_walk n (next_at p at)))
      (λ (g : good p at ≡ false). tt)

  closed : (from : ℕ) → Closed (next_record p from)
  unfolding next_record
  closed from = closed_walk (length p) from

  -- past the end there is none
  pub past_end : (from : ℕ) → length p ≤ from → pti_from p from ≡ []
  unfolding pti_from bodies_from flat_map
  past_end from h = ap (flat_map (held_in p)) (sym (outside (λ (here : ℕ) (rest : List Piece). body_at p here ++ rest) [] p (length p) from h))

  pub no_body : (from : ℕ) → next_record p from ≡ None → pti_from p from ≡ []
  unfolding pti_from flat_map
  no_body from e = rw (head p from) (rw e)

  module _ (from : ℕ) (b : Body) (e : next_record p from ≡ Some b) where
    pub next_is : b.next ≡ b.at + b.len + 1
    unfolding Closed
    next_is = subst Closed e (closed from)

    pub body : pti_from p from ≡ held_by b.at b.len (frame_of (take b.len (drop b.at p))) ++ pti_from p b.next
    unfolding pti_from flat_map
    body = rw (head p from) (rw e)

    goes_held : (r : Option PtiFrame) → frame_of (take b.len (drop b.at p)) ≡ r
        → Goes (pti_from p) (length p) b.next (pti_from p b.next)
        → Goes (pti_from p) (length p) from (held_by b.at b.len r ++ pti_from p b.next)
    unfolding Goes
    goes_held None f later = earlier (pti_from p) (length p) from b.next (omega (arith, next_further p from b e)) (pti_from p b.next) later
    goes_held (Some g) f later =
        let size : length (take b.len (drop b.at p)) ≡ b.len = length-take-le b.len (drop b.at p) (simp length-drop (omega (arith, body_inside p from b e))) in
        record {
          rest = ap (pti_from p) (sym next_is);
          further = omega (arith, next_further p from b e, next_is);
          inside = omega (arith, next_inside p from b e, next_is);
          mpdu_inside = omega (arith, mpdu_inside (take b.len (drop b.at p)) g f, body_inside p from b e);
        }

  goes_split : (t from : ℕ) → ((next : ℕ) → from < next → Goes (pti_from p) (length p) next (pti_from p next))
      → (r : Option Body) → next_record p from ≡ r
      → Goes (pti_from p) (length p) from (pti_from p from)
  unfolding Goes
  goes_split t from ih None e = rw (no_body from e) tt
  goes_split t from ih (Some b) e =
      rw (body from b e) (goes_held from b e (frame_of (take b.len (drop b.at p))) refl (ih b.next (next_further p from b e)))

  goes_by : (t from : ℕ) → length p ≤ from + t → Goes (pti_from p) (length p) from (pti_from p from)
  unfolding Goes
  goes_by zero from h = rw (past_end from (omega arith)) tt
  goes_by (suc t) from h = goes_split t from (λ next l. goes_by t next (omega arith)) (next_record p from) refl

  pub goes : (from : ℕ) → Goes (pti_from p) (length p) from (pti_from p from)
  goes from = goes_by (length p) from (omega arith)

-- what the code meets from a place on
module _ (p : List ℕ) (from : ℕ) where
  pub none_met : None ≡ next_record p from → None ≡ first_of (pti_from p from)
  none_met e = rw (no_body p from (sym e))

  module _ (b : Body) (e : Some b ≡ next_record p from) where
    pub body_met : (b.at + b.len ≤ length p) × (from < b.next) × (b.next ≤ length p)
    body_met = (body_inside p from b (sym e), next_further p from b (sym e), next_inside p from b (sym e))

    module _ (r : Option PtiFrame) (r-is : r ≡ frame_of (take (b.at + b.len - b.at) (drop b.at p))) where
      holds : frame_of (take b.len (drop b.at p)) ≡ r
      holds = let size_is : b.at + b.len - b.at ≡ b.len = omega arith in sym (rw size_is at r-is)

      pub is_nothing : r ≡ None → pti_from p b.next ≡ pti_from p from
      is_nothing h = sym (rw (holds ∙ h) at (body p from b (sym e)))

      module _ (f : PtiFrame) (h : r ≡ Some f) where
        pub is_frame : Some (record { frame = shifted b.at f; next = b.next }) ≡ first_of (pti_from p from)
        is_frame = rw (body p from b (sym e)) (rw (holds ∙ h) (rw (next_is p from b (sym e))))

        pub mpdu_fits : b.at + f.mpdu ≤ length p
        mpdu_fits =
            let size : length (take b.len (drop b.at p)) ≡ b.len = length-take-le b.len (drop b.at p) (simp length-drop (omega (arith, body_met))) in
            omega (arith, mpdu_inside (take b.len (drop b.at p)) f (holds ∙ h), body_met)

pub ruleset turns = (none_met, body_met, is_nothing, is_frame, mpdu_fits)
