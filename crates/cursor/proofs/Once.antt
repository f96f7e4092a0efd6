-- There is but one way to read: with the same counts and tables, chosen at each place, the same calls. Assumes nothing.
use Prim.Native.Nat.{ℕ}
use lib.ListN.{length}
use mathlib.Core.Bool.{true, false, false≢true}
use mathlib.Core.List.{List, [], ◌∷◌}
use Rattle.std.specs.Prelude.{None}
use mathlib.Core.Path.{◌≡◌, sym, ap, subst, ◌∙◌}
use Rattle.record.specs.Record.{Limits}
use Rattle.rows.specs.declared.Row.{Row}
use Rattle.paging.specs.Page.{page_at}
use Rattle.cursor.specs.Reading.{Call, told, Asked, Chosen, Reading, last, more}
use Rattle.cursor.specs.Table.{Answered}
use Rattle.cursor.proofs.Only.{only_answer}

module _ (limits : Limits) (kinds s : List ℕ) (counts : ℕ → ℕ) (tables : ℕ → List Row) where
  abbrev By : ℕ → Call → Type 0
  By at c = Asked limits kinds s at c × Chosen counts tables at c

  one_call : (at : ℕ) (c d : Call) → By at c → By at d → c ≡ d
  one_call at c d p q =
      let count : c.count ≡ d.count = p.1.count_is ∙ sym q.1.count_is in
      let lent : c.lent ≡ d.lent = p.1.table_is ∙ sym q.1.table_is in
      let given = page_at limits kinds s None at c.count (length c.lent) in
      let other : Answered given d.answer c.lent d.after = rw (count, lent) q.0.answered in
      let same = only_answer given c.lent c.answer d.answer c.after d.after p.0.answered other in
      λ j. record { count = count j; lent = lent j; answer = same.0 j; after = same.1 j }

  differ : (at : ℕ) (c d : Call) → By at c → By at d → (told c).is_more ≡ false → (told d).is_more ≡ true → ⊥
  differ at c d o o' e e' = false≢true (sym e ∙ ap (λ (x : Call). (told x).is_more) (one_call at c d o o') ∙ e')

  pub read_once : {at : ℕ} {cs ds : List Call} → Reading By at cs false → Reading By at ds false → cs ≡ ds
  read_once {at} (last {c = c} o e) (last {c = d} o' e') = ap (λ (x : Call). x ∷ []) (one_call at c d o o')
  read_once {at} (last {c = c} o e) (more {c = d} o' e' q) = absurd (differ at c d o o' e e')
  read_once {at} (more {c = c} o e p) (last {c = d} o' e') = absurd (differ at d c o' o e' e)
  read_once {at} (more {c = c} o e p) (more {c = d} {calls = ds} o' e' q) =
      let same = one_call at c d o o' in
      let rest = read_once p (subst (λ (x : Call). Reading By (told x).next ds false) (sym same) q) in
      λ j. same j ∷ rest j
