-- What a step of splitting gives, told in numbers. That it determines the answer is `only_split` of proofs/Only.antt.
use Rattle.std.specs.Prelude.{ℕ, Bool, true, false, Option, None, Some}
use Rattle.bracket.specs.declared.Body.{Body}

-- whether there is a body, its place and length in the payload, and the place after its bracket record; what is not said is 0
pub record SplitTold : Type 0 where
  pub is_body : Bool
  pub at : ℕ
  pub len : ℕ
  pub next : ℕ

abbrev pub told_split : Option Body → SplitTold
told_split (Some b) = record { is_body = true; at = b.at; len = b.len; next = b.next }
told_split None = record { is_body = false; at = 0; len = 0; next = 0 }
