-- The laws of a whole file. A file is spelled by the tokens from which it is read (UnitsSound), and read from the tokens that spell it (UnitsComplete).
-- As a reader has one answer, the same tokens do not spell two files, and tokens that are refused spell none; FileFaults has the places of faults.
use Rattle.std.proofs.Common.{◌≡◌, ℕ, List, [], Ok, Err, refl, sym, ap, subst, ◌∙◌}
use Rattle.sim_text_grammar.specs.declared.error.ParseError.{ParseError}
use Rattle.sim_text_grammar.specs.declared.error.ParseError.TheVariants.{TimeRange, TooDeep}
use Rattle.sim_text_grammar.specs.Faults.{IsTooLarge, IsOpening}
use Rattle.sim_text_grammar.proofs.FaultPlaces.{Blame}
use Rattle.sim_text_grammar.proofs.FileFaults.{file_blames}
use Rattle.sim_text_tree.specs.DesignFile.{DesignFile}
use Rattle.sim_text_tree.specs.declared.unit.DesignUnit.{DesignUnit}
use Rattle.sim_text_tree.specs.Input.{Input}
use Rattle.sim_text_grammar.specs.Readers.{ParseResult}
use Rattle.sim_text_tree.specs.Grammar.{AreUnits, IsFile}
use Rattle.sim_text_grammar.proofs.Gives.{Hits}
use Rattle.sim_text_grammar.specs.Units.{file, units_of, finish}
use Rattle.sim_text_grammar.proofs.UnitsSound.{file_gives}
use Rattle.sim_text_grammar.proofs.UnitsComplete.{file_again}

pub is_found : (i j : Input) (x : DesignFile) → file i ≡ Ok (x, j) → IsFile x i
is_found i j x e = let g = subst (λ (o : ParseResult DesignFile). Hits (λ y m. IsFile y i) o) e (file_gives i).gives in g

abbrev ok_of : DesignFile × Input → ParseResult DesignFile
ok_of p = Ok p

ok_is : (a b : DesignFile × Input) → ok_of a ≡ ok_of b → a ≡ b
ok_is a b e = cc

pub is_only : (i j : Input) (x y : DesignFile) → file i ≡ Ok (x, j) → IsFile y i → y ≡ x
is_only i j x y e h = let both : ok_of (y, []) ≡ ok_of (x, j) = sym (file_again y i h) ∙ e in ap (λ (p : DesignFile × Input). p.0) (ok_is (y, []) (x, j) both)

pub is_refused : (i : Input) (e : ParseError) (y : DesignFile) → file i ≡ Err e → IsFile y i → ⊥
is_refused i e y f h = let both : ok_of (y, []) ≡ Err e = sym (file_again y i h) ∙ f in absurd cc

pub one_file : (i : Input) (a b : DesignFile) → IsFile a i → IsFile b i → a ≡ b
one_file i a b x y = is_only i [] b a (file_again b i y) x

-- a `TimeRange` fault is at a time that is too large
pub large_time : (i : Input) (n : ℕ) → file i ≡ Err (TimeRange n) → IsTooLarge i n
large_time i n e = subst (λ (o : ParseResult DesignFile). Blame i o) e (file_blames i).blame

-- a `TooDeep` fault is at a parenthesis or an `if`
pub deep_opening : (i : Input) (n : ℕ) → file i ≡ Err (TooDeep n) → IsOpening i n
deep_opening i n e = subst (λ (o : ParseResult DesignFile). Blame i o) e (file_blames i).blame

-- units that are read up to the end of the tokens are spelled by them
pub units_read : (i j m : Input) (xs : List DesignUnit) → units_of i ≡ Ok (xs, j) → finish j ≡ Ok (tt, m) → AreUnits xs i
unfolding file
units_read i j m xs e f = let read : file i ≡ Ok (record { units = xs }, m) = rw (e, f) refl in is_found i m (record { units = xs }) read
