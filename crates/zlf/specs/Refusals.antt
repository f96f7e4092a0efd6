-- What is said of a refusal: a text by its number, 1 to 10, with its facts.
use Rattle.std.specs.Prelude.{ℕ, eqb, length, cond, List, codes}
use Rattle.layout.specs.Layout.{le_at}
use Rattle.zlf.specs.declared.facts.Facts.{Facts}
use Rattle.zlf.specs.Facts.{facts_of}

-- each mark in a text stands for the next fact; of another number nothing is said
unfoldable pub refusal_text : ℕ → List ℕ
refusal_text number =
    cond (eqb number 1) (codes ": refusal 1: the file has more than 1073741824 bytes, the longest trace that is read\n")
    (cond (eqb number 2) (codes ": refusal 2: a trace has a header of 2048 bytes, and this file has % bytes\n")
    (cond (eqb number 3) (codes ": refusal 3: the header sum is wrong (zlf info FILE shows it)\n")
    (cond (eqb number 4) (codes ": refusal 4: the trace has version %, which is not the one expected (--version N)\n")
    (cond (eqb number 5) (codes ": refusal 5: the place % is too large\n")
    (cond (eqb number 6) (codes ": refusal 6: the place % is not from 2048 to the trace's length, %\n")
    (cond (eqb number 7) (codes ": refusal 7: the page has more than 600 frames: ask for fewer with --count\n")
    (cond (eqb number 8) (codes ": refusal 8: the record at % has a negative length\n")
    (cond (eqb number 9) (codes ": refusal 9: the trace ends in the properties or the length of the record at %\n")
    (cond (eqb number 10) (codes ": refusal 10: the trace ends in the payload or before the end byte of the record at %\n")
    (codes "\n"))))))))))

-- of a trace that does not open its version, where that is another one, refusal 4, or else its size
abbrev pub opening_facts : ℕ → List ℕ → Facts
opening_facts number s = facts_of (cond (eqb number 4) (le_at 4 s 0) (length s)) 0 0
