-- The results of a reader. `Gives q (r i)` says that q holds for the result of the reader r and the remaining tokens, if there is a result;
-- `then_` follows combined readers, where each step may use what the one before has shown.
use Rattle.std.proofs.Common.{Ok, Err}
use Rattle.sim_text_tree.specs.Input.{Input}
use Rattle.sim_text_grammar.specs.declared.error.ParseError.{ParseError}
use Rattle.sim_text_grammar.specs.Readers.{ParseResult, Parser, and_then}

-- The result and the remaining tokens have this property.
abbrev pub Hits : {A : Type 0} → (A → Input → Type 0) → ParseResult A → Type 0
Hits q (Ok r) = q r.0 r.1
Hits q (Err e) = Unit {0}

pub record Gives {A : Type 0} (q : A → Input → Type 0) (o : ParseResult A) : Type 0 where
  pub gives : Hits q o

then_by : {A B : Type 0} (p : A → Input → Type 0) (q : B → Input → Type 0) (o : ParseResult A) (f : A → Parser B) → Hits p o
    → ((a : A) (j : Input) → p a j → Gives q (f a j)) → Gives q (and_then o f)
then_by p q (Ok r) f h g = g r.0 r.1 h
then_by p q (Err e) f h g = record { gives = tt }

pub then_ : {A B : Type 0} {p : A → Input → Type 0} {q : B → Input → Type 0} {o : ParseResult A} {f : A → Parser B} → Gives p o
    → ((a : A) (j : Input) → p a j → Gives q (f a j)) → Gives q (and_then o f)
then_ {A} {B} {p} {q} {o} {f} h g = then_by p q o f h.gives g

map_by : {A : Type 0} (p q : A → Input → Type 0) (o : ParseResult A) → Hits p o → ((a : A) (j : Input) → p a j → q a j) → Hits q o
map_by p q (Ok r) h g = g r.0 r.1 h
map_by p q (Err e) h g = tt

pub map_ : {A : Type 0} {p q : A → Input → Type 0} {o : ParseResult A} → Gives p o → ((a : A) (j : Input) → p a j → q a j) → Gives q o
map_ {A} {p} {q} {o} h g = record { gives = map_by p q o h.gives g }

pub done : {A : Type 0} {q : A → Input → Type 0} {a : A} {j : Input} → q a j → Gives q (Ok (a, j))
done h = record { gives = h }

pub refused : {A : Type 0} {q : A → Input → Type 0} {e : ParseError} → Gives q (Err e)
refused = record { gives = tt }
