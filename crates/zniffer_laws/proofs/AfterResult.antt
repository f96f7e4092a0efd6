-- After every result but IncompleteFrame the parser is fresh, its payload too. Assumes nothing.
use Prim.Native.Nat.{ℕ, ◌+◌}
use mathlib.Core.Bool.{true, false}
use mathlib.Core.List.{List, [], ◌∷◌}
use mathlib.Core.Path.{◌≡◌}
use Rattle.zniffer_numbers.specs.declared.Core.{Core}
use Rattle.zniffer_numbers.specs.declared.ParserResult.{ParserResult}
use Rattle.zniffer_numbers.specs.declared.ParserResult.TheVariants.{ValidCommand, ValidFrame, IncompleteFrame, InvalidFrame}
use Rattle.zniffer_numbers.specs.Numbers.{fresh_core, goes_on}
use Rattle.zniffer_core.specs.Run.{core_step_of}
use Rattle.zniffer_laws.proofs.AfterStep.{fresh_after}
use Rattle.choice.proofs.Choice.{either}
use Rattle.zniffer.specs.declared.parser.Parser.{Parser}
use Rattle.zniffer.specs.Parse.{core_of, fresh_parser, with_byte, settle, step_of, run_from}

settled : (c : Core) (l : List ℕ) (r : ParserResult) → (goes_on r ≡ false → c ≡ fresh_core) → goes_on (settle c l r).answer.result ≡ false → (settle c l r).parser ≡ fresh_parser
settled c l IncompleteFrame h e = let z : true ≡ false = e in cc
settled c l InvalidFrame h e = rw (h e)
settled c l (ValidCommand i n) h e = rw (h e)
settled c l (ValidFrame w k v g r n) h e = rw (h e)

pub fresh_parser_after : (p : Parser) (b : ℕ) → goes_on (step_of p b).answer.result ≡ false → (step_of p b).parser ≡ fresh_parser
unfolding step_of
fresh_parser_after p b = settled (core_step_of (core_of p) b).core (with_byte (core_of p) p.payload b) (core_step_of (core_of p) b).result (fresh_after (core_of p) b)

-- so is it after a run that ends with such a result
pub fresh_after_run : (s : List ℕ) (k : ℕ) (p : Parser) → goes_on (run_from k s p).out.answer.result ≡ false → (run_from k s p).parser ≡ fresh_parser
unfolding run_from
fresh_after_run [] k p e = let z : true ≡ false = e in cc
fresh_after_run (b ∷ bs) k p e =
    either (goes_on (step_of p b).answer.result) (λ yes'. rw yes' (fresh_after_run bs (k + 1) (step_of p b).parser (rw yes' at e))) (λ no'. rw no' (fresh_parser_after p b no'))
