-- What `Option::map` answers, where its closure gives the value of a function. Assumes nothing.
use mathlib.Core.Path.{◌≡◌, ap}
use Rattle.std.specs.Prelude.{Option, None, Some, MatchOption, option_map}
use Rattle.std.specs.Option.{IsSomeAnd}

module _ {A B : Type 0} (f : A → B) where
  some_is : (o : Option B) (y : B) → IsSomeAnd o (λ z. z ≡ y) → o ≡ Some y
  some_is (Some z) y e = ap (λ x. Some x) e
  some_is None y e = absurd e

  pub mapped : (r : Option A) (o : Option B) → MatchOption r (o ≡ None) (λ x. IsSomeAnd o (λ y. y ≡ f x)) → o ≡ option_map f r
  mapped None o e = e
  mapped (Some x) o e = some_is o (f x) e
