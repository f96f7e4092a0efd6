-- 02's request 12: three payloads grouped either way, and any number. Assumes nothing.
use Prim.Native.Nat.{ℕ, ◌<◌}
use lib.ListN.{length, length-append}
use mathlib.Core.List.{List, [], ◌∷◌, ◌++◌, append-nil, append_assoc, map, flat_map, flatten}
use mathlib.Core.Path.{◌≡◌, refl, sym, ap, ◌∙◌}
use native.Mathlib.Omega.{arith}
use Rattle.choice.proofs.Flat.{flatten_append}
use Rattle.bracket.specs.Bracket.{walk, bodies_from, bodies}
use Rattle.bundles.specs.Bundles.{contents, Premises, EitherWay, Bundle, AllLong}
use Rattle.bundles.proofs.Joined.{joined_consumed, joined, joined_long}

pub either_way : (p q r : List ℕ) → Premises p q → Premises q r → EitherWay p q r
either_way p q r on on' =
    record {
      left = left;
      right = right;
      left_kept =
          joined (p ++ q) r left ∙ ap (λ (l : List (List ℕ)). l ++ contents r) (joined p q on) ∙ append_assoc (contents p) (contents q) (contents r);
      right_kept = joined p (q ++ r) right ∙ ap (λ (l : List (List ℕ)). contents p ++ l) (joined q r on');
      same_places = ap bodies (append_assoc p q r);
    }
  where
    left : Premises (p ++ q) r
    left = record { first_long = joined_long p q on; consumed = joined_consumed p q on.consumed on'.consumed; second_long = on'.second_long }

    right : Premises p (q ++ r)
    right = record { first_long = on.first_long; consumed = on.consumed; second_long = joined_long q r on' }

-- splitting a bundle gives the bodies of each of its payloads, in order
bundle_long : (p : List ℕ) (ps : List (List ℕ)) → AllLong (p ∷ ps) → 4 < length (flatten (p ∷ ps))
unfolding AllLong flatten
bundle_long p ps l = omega (arith, l.0, length-append p (flatten ps))

pub bundled : (ps : List (List ℕ)) → Bundle ps → AllLong ps → contents (flatten ps) ≡ flat_map contents ps
unfolding Bundle AllLong flatten flat_map contents bodies_from walk
bundled [] b l = refl
bundled (p ∷ []) b l = ap contents (append-nil p) ∙ sym (append-nil (contents p))
bundled (p ∷ (q ∷ ps)) b l =
    joined p (flatten (q ∷ ps)) (record { first_long = l.0; consumed = b.0; second_long = bundle_long q ps l.1 })
    ∙ ap (λ (c : List (List ℕ)). contents p ++ c) (bundled (q ∷ ps) b.1 l.1)

-- bundles of bundles are one bundle, however they are grouped
pub regrouped : (groups : List (List (List ℕ))) → flatten (map flatten groups) ≡ flatten (flatten groups)
unfolding flatten
regrouped [] = refl
regrouped (g ∷ groups) = ap (λ (l : List ℕ). flatten g ++ l) (regrouped groups) ∙ sym (flatten_append g (flatten groups))

pub rebundled : (groups : List (List (List ℕ))) → Bundle (flatten groups) → AllLong (flatten groups)
    → contents (flatten (map flatten groups)) ≡ flat_map contents (flatten groups)
rebundled groups b l = ap contents (regrouped groups) ∙ bundled (flatten groups) b l
