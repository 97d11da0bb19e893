-- Spellings: the tokens of a tree, and its limits. They are independent of reading.
use Rattle.std.specs.Prelude.{◌≡◌, ℕ, suc, ◌≤◌, max, Bool, true, false, List, [], ◌∷◌, ◌++◌, codes}
use Rattle.sim_logic.specs.declared.logic.Logic.{Logic}
use Rattle.sim_logic.specs.Logic.{byte_of}
use Rattle.sim_logic.specs.declared.time.Unit.{Unit as TimeUnit}
use Rattle.sim_logic.specs.declared.time.Unit.TheVariants as u
use Rattle.sim_logic.specs.Time.{largest_time}
use Rattle.sim_text_tokens.specs.Token.{Token}
use Rattle.sim_text_tokens.specs.declared.kind.Kind.{Kind}
use Rattle.sim_text_tokens.specs.declared.kind.Kind.TheVariants as k
use Rattle.sim_text_tree.specs.Name.{Name}
use Rattle.sim_text_tree.specs.Input.{Input}

-- one token of a spelling: its kind, and its text and start if the tree keeps them
pub data Piece : Type 0 where
  Mark : Kind → Piece
  MarkAt : Kind → ℕ → Piece
  WordAt : List ℕ → ℕ → Piece
  LiteralAt : Logic → ℕ → Piece
  NumberAt : List ℕ → ℕ → Piece
  UnitWord : TimeUnit → Piece
  This : List ℕ → Piece
  Never : Piece

-- the name of a unit (IEEE 1076-2008, 5.2.4.2)
abbrev pub unit_name : TimeUnit → List ℕ
unit_name u.Fs = codes "fs"
unit_name u.Ps = codes "ps"
unit_name u.Ns = codes "ns"
unit_name u.Us = codes "us"
unit_name u.Ms = codes "ms"
unit_name u.Sec = codes "sec"
unit_name u.Min = codes "min"
unit_name u.Hr = codes "hr"

-- The token matches that piece.
abbrev pub Stands : Piece → Token → Type 0
Stands (Mark kind) t = t.kind ≡ kind
Stands (MarkAt kind at) t = (t.kind ≡ kind) × (t.start ≡ at)
Stands (WordAt text at) t = (t.kind ≡ k.Word) × (t.text ≡ text) × (t.start ≡ at)
Stands (LiteralAt value at) t = (t.kind ≡ k.Literal) × (t.text ≡ byte_of value ∷ []) × (t.start ≡ at)
Stands (NumberAt text at) t = (t.kind ≡ k.Number) × (t.text ≡ text) × (t.start ≡ at)
Stands (UnitWord unit) t = (t.kind ≡ k.Word) × (t.text ≡ unit_name unit)
Stands (This text) t = (t.kind ≡ k.Word) × (t.text ≡ text)
Stands Never t = ⊥

-- The pieces match the front of the tokens i, and the tokens j remain.
abbrev pub Takes : List Piece → Input → Input → Type 0
Takes [] i j = i ≡ j
Takes (p ∷ ps) [] j = ⊥
Takes (p ∷ ps) (t ∷ ts) j = Stands p t × Takes ps ts j

-- a spelling, the largest numbers of parentheses and of ifs open in it, and its largest time
pub record Writing : Type 0 where
  pub pieces : List Piece
  pub parentheses : ℕ
  pub ifs : ℕ
  pub latest : ℕ

-- no token
abbrev pub nothing : Writing
nothing = record { pieces = []; parentheses = 0; ifs = 0; latest = 0 }

-- one token
abbrev pub just : Piece → Writing
just p = record { pieces = p ∷ []; parentheses = 0; ifs = 0; latest = 0 }

-- a token of this kind
abbrev pub mark : Kind → Writing
mark kind = just (Mark kind)

-- a spelling that no tokens match
abbrev pub never : Writing
never = just Never

-- one after the other
infixr 10 ◌▸◌
unfoldable pub ◌▸◌ : Writing → Writing → Writing
a ▸ b = record { pieces = a.pieces ++ b.pieces; parentheses = max a.parentheses b.parentheses; ifs = max a.ifs b.ifs; latest = max a.latest b.latest }

-- inside one more pair of parentheses
abbrev pub in_parentheses : Writing → Writing
in_parentheses a = record { pieces = a.pieces; parentheses = suc a.parentheses; ifs = a.ifs; latest = a.latest }

-- inside one more `if`
abbrev pub in_if : Writing → Writing
in_if a = record { pieces = a.pieces; parentheses = a.parentheses; ifs = suc a.ifs; latest = a.latest }

-- each after the one before
abbrev pub all_of : List Writing → Writing
all_of [] = nothing
all_of (w ∷ ws) = w ▸ all_of ws

-- each after a token of this kind
abbrev pub each_after : Kind → List Writing → Writing
each_after kind [] = nothing
each_after kind (w ∷ ws) = (mark kind ▸ w) ▸ each_after kind ws

-- at least one, with a token of this kind between two
abbrev pub separated_by : Kind → List Writing → Writing
separated_by kind [] = never
separated_by kind (w ∷ ws) = w ▸ each_after kind ws

-- at least one
abbrev pub some_of : List Writing → Writing
some_of [] = never
some_of (w ∷ ws) = w ▸ all_of ws

-- the spelling, if it is written
abbrev pub if_written : Bool → Writing → Writing
if_written true w = w
if_written false w = nothing

-- a name
abbrev pub word_at : Name → Writing
word_at n = just (WordAt n.text n.at)

-- The tokens from i to j match the spelling, at most that many parentheses and ifs are open, and no time is too large.
pub record Fits (parentheses ifs : ℕ) (w : Writing) (i j : Input) : Type 0 where
  pub takes : Takes w.pieces i j
  pub parentheses_fit : w.parentheses ≤ parentheses
  pub ifs_fit : w.ifs ≤ ifs
  pub latest_fits : w.latest ≤ largest_time
