-- 02's request 12: two payloads joined, on 02's premises. Nothing else is in this file. Assumes nothing.
use Prim.Native.Nat.{ℕ, ◌<◌, ◌≤◌}
use lib.ListN.{length, length-append}
use mathlib.Core.List.{List, ◌++◌, map, flat_map}
use mathlib.Core.Path.{◌≡◌, sym, ap, ◌∙◌}
use native.Mathlib.Omega.{arith}
use Rattle.choice.proofs.Flat.{flat_append}
use Rattle.bracket.specs.Bracket.{steps}
use Rattle.bracket.proofs.Splitting.{steps_from}
use Rattle.bundles.specs.Bundles.{bracket_of, Consumed, moved_by, Premises, Kept, KeptPlaces}
use Rattle.bundles.proofs.Split.{places_kept}
use Rattle.bundles.proofs.Whole.{four_bytes, kept_there}

-- payloads that are consumed to their last byte are so together
pub joined_consumed : (p q : List ℕ) → Consumed p → Consumed q → Consumed (p ++ q)
joined_consumed p q c d =
    record {
      inners = c.inners ++ d.inners;
      made = ap (λ (x : List ℕ). x ++ q) c.made ∙ ap (λ (y : List ℕ). flat_map bracket_of c.inners ++ y) d.made ∙ sym (flat_append bracket_of c.inners d.inners);
    }

module _ (p q : List ℕ) (on : Premises p q) where
  -- "splitting the joined payload gives the bodies of the first followed by those of the second"
  pub joined_places : KeptPlaces p q
  joined_places =
      kept_there p q on.consumed
      (record {
        first = λ (h : 0 < length q). four_bytes p (λ (e : length p ≡ 4). omega (arith, on.first_long));
        second = λ (h : 0 < length p). four_bytes q (λ (e : length q ≡ 4). omega (arith, on.second_long));
      })

  pub joined : Kept p q
  joined = places_kept p q joined_places

  -- what a caller of `next_record` meets who goes on to the end: so many steps are enough for all three
  pub joined_steps : (n : ℕ) → length (p ++ q) ≤ n → steps (p ++ q) n 0 ≡ steps p n 0 ++ map (moved_by (length p)) (steps q n 0)
  joined_steps n h =
      rw (
        steps_from (p ++ q) n 0 (omega arith),
        steps_from p n 0 (omega (arith, length-append p q)),
        steps_from q n 0 (omega (arith, length-append p q)),
      )
      joined_places

  -- the joined payload can be joined again
  pub joined_long : 4 < length (p ++ q)
  joined_long = omega (arith, length-append p q, on.first_long)
