-- A line by its text and its facts: each mark in the text stands for the next fact.
use Rattle.std.specs.Prelude.{ℕ, ◌/◌, ◌%◌, eqb, pos, Bool, cond, ◌||◌, List, [], ◌∷◌, ◌++◌}
use Rattle.text.specs.Texts.{decimal_text, hex_text}
use Rattle.names.specs.Names.{time_text}
use Rattle.zlf.specs.declared.facts.Facts.{Facts}

-- `%` is a number in decimal, `@` a time, in milliseconds since the Unix epoch, `#` two bytes in hexadecimal, the high one first
abbrev pub moment_text : ℕ → List ℕ
moment_text millis = time_text (pos millis)

abbrev pub sum_text : ℕ → List ℕ
sum_text sum = hex_text (sum / 256 % 256 ∷ sum % 256 ∷ [])

-- what a byte of the text shows
unfoldable pub shown : ℕ → ℕ → List ℕ
shown b fact =
    cond (eqb b 0x25) (decimal_text fact)
    (cond (eqb b 0x40) (moment_text fact)
    (cond (eqb b 0x23) (sum_text fact) (b ∷ [])))

abbrev pub facts_of : ℕ → ℕ → ℕ → Facts
facts_of first second third = record { first = first; second = second; third = third }

-- the facts that are left after it: a mark takes one
abbrev pub is_mark : ℕ → Bool
is_mark b = (eqb b 0x25 || eqb b 0x40) || eqb b 0x23

unfoldable pub facts_after : Facts → ℕ → Facts
facts_after f b = cond (is_mark b) (facts_of f.second f.third 0) f

-- the line
unfoldable pub line_text : List ℕ → Facts → List ℕ
line_text [] f = []
line_text (b ∷ bs) f = shown b f.first ++ line_text bs (facts_after f b)
