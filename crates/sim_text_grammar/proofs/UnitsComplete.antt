-- Completeness for design units and files: reading the tokens that spell one returns it. `split` takes the spelling apart, which gives the tokens that the
-- reader sees at each step, and so its answer; lists by induction on the remaining tokens. A token after a list or an optional part must not continue it,
-- so lemmas require this of the next token.
use Rattle.std.proofs.Common.{◌≡◌, ℕ, zero, suc, ◌≤◌, Bool, true, false, List, [], ◌∷◌, ◌++◌, length, map, Ok, refl, append_assoc, arith}
use Rattle.std.proofs.lemmas.List.{append-nil}
use Rattle.sim_text_tokens.specs.declared.kind.Kind.{Kind}
use Rattle.sim_text_tokens.specs.declared.kind.Kind.TheVariants as k
use Rattle.sim_text_tree.specs.Name.{Name}
use Rattle.sim_text_tree.specs.declared.unit.SelectedName.{SelectedName}
use Rattle.sim_text_tree.specs.declared.unit.ContextItem.{ContextItem}
use Rattle.sim_text_tree.specs.declared.unit.ContextItem.TheVariants as items
use Rattle.sim_text_tree.specs.declared.unit.Entity.{Entity}
use Rattle.sim_text_tree.specs.declared.unit.Architecture.{Architecture}
use Rattle.sim_text_tree.specs.declared.unit.LibraryUnit.{LibraryUnit}
use Rattle.sim_text_tree.specs.declared.unit.LibraryUnit.TheVariants as units
use Rattle.sim_text_tree.specs.declared.unit.DesignUnit.{DesignUnit}
use Rattle.sim_text_tree.specs.DesignFile.{DesignFile}
use Rattle.sim_text_tree.specs.Input.{Input, kind}
use Rattle.sim_text_grammar.specs.Readers.{left}
use Rattle.sim_text_tree.specs.Writing.{Mark, This, if_written, just, mark, ◌▸◌, all_of, separated_by, some_of, word_at, Fits}
use Rattle.sim_text_tree.specs.Grammar.{of_suffixes, of_selection, of_selected, of_context_item, of_entity, of_architecture, of_library_unit, of_unit}
use Rattle.sim_text_tree.specs.Grammar.{of_units, IsFile}
use Rattle.sim_text_tree.proofs.Writings.{split, none_read, never_fits, mark_read, shorter, less, then_less}
use Rattle.sim_text_grammar.proofs.Tokens.{other, is_same, not_same, word_read, word_kind, this_kind, is_seen, not_seen, eat_read, eat_not, expect_read}
use Rattle.sim_text_grammar.proofs.Tokens.{written_read}
use Rattle.sim_text_grammar.proofs.Lists.{many_again, many_all_again, separated_again, all_begin}
use Rattle.sim_text_grammar.specs.Units.{suffixes_from, suffixes, selected, selected_names, context_item, begins_context, context, entity}
use Rattle.sim_text_grammar.specs.Units.{architecture_body, architecture, library_unit, unit, goes_on, units_of, finish, file}
use Rattle.sim_text_grammar.proofs.DeclarationsComplete.{names_again, repeated_again, ports_again, declarations_again}
use Rattle.sim_text_grammar.proofs.ConcurrentsComplete.{concurrents_again}

-- no suffix of a selected name follows
abbrev NoDot : Kind → Type 0
NoDot x = x ≡ k.Dot → ⊥

suffixes_again : (m : ℕ) (found xs : List Name) (all : Bool) (i j : Input) → Fits 64 64 (of_selection xs all) i j → length i ≤ m → NoDot (kind j)
    → suffixes_from m found i ≡ Ok ((found ++ xs, all), j)
unfolding suffixes_from
suffixes_again m found [] false i j h len stop = absurd (never_fits i j h)
suffixes_again zero found [] true i j h len stop = let l = less (Mark k.Dot) (mark k.All) i j h in absurd (omega arith)
suffixes_again (suc m) found [] true i j h len stop =
    let s = split h in
    rw (expect_read k.Dot i s.mid s.front, eat_read k.All s.mid j s.back, append-nil found) refl
suffixes_again zero found (x ∷ xs) all i j h len stop = let l = less (Mark k.Dot) (word_at x ▸ of_suffixes xs all) i j h in absurd (omega arith)
suffixes_again (suc m) found (x ∷ []) false i j h len stop =
    let s = split h in
    let t = split s.back in
    let z = none_read t.back in
    let e = word_kind s.mid t.mid x t.front in
    rw (expect_read k.Dot i s.mid s.front, eat_not k.All s.mid (other e (λ y. absurd cc)), word_read s.mid t.mid x t.front, z, not_seen k.Dot j stop) refl
suffixes_again (suc m) found (x ∷ []) true i j h len stop =
    let s = split h in
    let t = split s.back in
    let e = word_kind s.mid t.mid x t.front in
    let d = (mark_read t.mid (split t.back).mid k.Dot (split t.back).front).0 in
    let l = shorter i s.mid s.front in
    let o = shorter s.mid t.mid t.front in
    rw (
      expect_read k.Dot i s.mid s.front,
      eat_not k.All s.mid (other e (λ y. absurd cc)),
      word_read s.mid t.mid x t.front,
      is_seen k.Dot t.mid d,
      suffixes_again m (found ++ x ∷ []) [] true t.mid j t.back (omega arith) stop,
      append_assoc found (x ∷ []) [],
    ) refl
suffixes_again (suc m) found (x ∷ y ∷ xs) all i j h len stop =
    let s = split h in
    let t = split s.back in
    let e = word_kind s.mid t.mid x t.front in
    let d = (mark_read t.mid (split t.back).mid k.Dot (split t.back).front).0 in
    let l = shorter i s.mid s.front in
    let o = shorter s.mid t.mid t.front in
    rw (
      expect_read k.Dot i s.mid s.front,
      eat_not k.All s.mid (other e (λ y. absurd cc)),
      word_read s.mid t.mid x t.front,
      is_seen k.Dot t.mid d,
      suffixes_again m (found ++ x ∷ []) (y ∷ xs) all t.mid j t.back (omega arith) stop,
      append_assoc found (x ∷ []) (y ∷ xs),
    ) refl

selected_again : (x : SelectedName) (i j : Input) → Fits 64 64 (of_selected x) i j → NoDot (kind j) → selected i ≡ Ok (x, j)
unfolding selected suffixes of_selected left
selected_again x i j h stop =
    let s = split h in
    rw (word_read i s.mid x.prefix s.front, suffixes_again (length s.mid) [] x.suffixes x.all s.mid j s.back (omega arith) stop) refl

selected_names_again : (xs : List SelectedName) (i j : Input) → Fits 64 64 (separated_by k.Comma (map of_selected xs)) i j → kind j ≡ k.Semicolon
    → selected_names i ≡ Ok (xs, j)
unfolding selected_names
selected_names_again xs i j h e = separated_again 64 64 k.Comma selected of_selected NoDot (λ z. absurd cc) (λ x a b f d. selected_again x a b f d) xs
    i j h (other e (λ z. absurd cc)) (other e (λ z. absurd cc))

item_again : (x : ContextItem) (i j : Input) → Fits 64 64 (of_context_item x) i j
    → (begins_context (kind i) ≡ true) × (suc (length j) ≤ length i) × (context_item i ≡ Ok (x, j))
unfolding of_context_item context_item
item_again (items.Library ns) i j h =
    let s = split h in
    let t = split s.back in
    let w = mark_read i s.mid k.Library s.front in (
      rw w.0 refl,
      less (Mark k.Library) _ i j h,
      rw (
        w.0,
        w.1,
        names_again ns s.mid t.mid t.front
            (other (mark_read t.mid j k.Semicolon t.back).0 (λ z. absurd cc)),
        expect_read k.Semicolon t.mid j t.back,
      ) refl,
    )
item_again (items.Use xs) i j h =
    let s = split h in
    let t = split s.back in
    let w = mark_read i s.mid k.Use s.front in (
      rw w.0 refl,
      less (Mark k.Use) _ i j h,
      rw (
        w.0,
        expect_read k.Use i s.mid s.front,
        selected_names_again xs s.mid t.mid t.front
            (mark_read t.mid j k.Semicolon t.back).0,
        expect_read k.Semicolon t.mid j t.back,
      ) refl,
    )

context_again : (xs : List ContextItem) (i j : Input) → Fits 64 64 (all_of (map of_context_item xs)) i j → begins_context (kind j) ≡ false
    → context i ≡ Ok (xs, j)
unfolding context
context_again xs i j h stop = many_all_again 64 64 begins_context context_item of_context_item (λ x. Unit {0}) (λ x a b f. (item_again x a b f).0)
    (λ x e. tt) (λ x a b f. (item_again x a b f).1) (λ x a b f d. (item_again x a b f).2) xs i j h tt stop

-- the optional word is followed by a name or the end
name_or : (b : Bool) (text : List ℕ) (i j : Input) → Fits 64 64 (if_written b (just (This text))) i j → kind j ≡ k.Semicolon
    → (kind i ≡ k.Entity → ⊥) × (kind i ≡ k.Architecture → ⊥)
name_or true text i j h e = let w = this_kind text i j h in (other w (λ z. absurd cc), other w (λ z. absurd cc))
name_or false text i j h e = let z = none_read h in (rw z (other e (λ y. absurd cc)), rw z (other e (λ y. absurd cc)))

entity_again : (x : Entity) (i j : Input) → Fits 64 64 (of_entity x) i j → (kind i ≡ k.Entity) × (suc (length j) ≤ length i) × (entity i ≡ Ok (x, j))
unfolding entity of_entity
entity_again x i j h =
    let a = split h in
    let b = split a.back in
    let c = split b.back in
    let d = split c.back in
    let e = split d.back in
    let f = split e.back in
    let g = split f.back in
    let end = (mark_read d.mid e.mid k.End e.front).0 in
    let semi = (mark_read g.mid j k.Semicolon g.back).0 in (
      (mark_read i a.mid k.Entity a.front).0,
      less (Mark k.Entity) _ i j h,
      rw (
        expect_read k.Entity i a.mid a.front,
        word_read a.mid b.mid x.name b.front,
        expect_read k.Is b.mid c.mid c.front,
        ports_again x.ports c.mid
            d.mid d.front (other end (λ z. absurd cc)),
        expect_read k.End d.mid e.mid e.front,
        written_read k.Entity e.mid f.mid x.word_repeated f.front
            (name_or x.name_repeated x.name.text f.mid g.mid g.front semi).0,
        repeated_again x.name.text x.name_repeated f.mid g.mid g.front
            (other semi (λ z. absurd cc)),
        expect_read k.Semicolon g.mid j g.back,
      ) refl,
    )

architecture_again : (x : Architecture) (i j : Input) → Fits 64 64 (of_architecture x) i j
    → (kind i ≡ k.Architecture) × (suc (length j) ≤ length i) × (architecture i ≡ Ok (x, j))
unfolding architecture architecture_body of_architecture
architecture_again x i j h =
    let a = split h in
    let b = split a.back in
    let c = split b.back in
    let d = split c.back in
    let e = split d.back in
    let f = split e.back in
    let g = split f.back in
    let l = split g.back in
    let m = split l.back in
    let n = split m.back in
    let o = split n.back in
    let begin = (mark_read f.mid g.mid k.Begin g.front).0 in
    let end = (mark_read l.mid m.mid k.End m.front).0 in
    let semi = (mark_read o.mid j k.Semicolon o.back).0 in (
      (mark_read i a.mid k.Architecture a.front).0,
      less (Mark k.Architecture) _ i j h,
      rw (
        expect_read k.Architecture i a.mid a.front,
        word_read a.mid b.mid x.name b.front,
        expect_read k.Of b.mid c.mid c.front,
        word_read c.mid d.mid
            x.entity d.front,
        expect_read k.Is d.mid e.mid e.front,
        declarations_again x.declarations e.mid f.mid f.front (rw begin refl),
        expect_read
            k.Begin f.mid g.mid g.front,
        concurrents_again x.statements g.mid l.mid l.front (rw end refl),
        expect_read k.End l.mid m.mid m.front,
        written_read k.Architecture m.mid n.mid x.word_repeated n.front (name_or x.name_repeated x.name.text n.mid o.mid o.front semi).1,
        repeated_again x.name.text x.name_repeated n.mid o.mid o.front (other semi (λ z. absurd cc)),
        expect_read k.Semicolon o.mid j o.back,
      ) refl,
    )

-- facts about a library unit, and that it is read
abbrev Known : LibraryUnit → Input → Input → Type 0
Known x i j = (begins_context (kind i) ≡ false) × (suc (length j) ≤ length i) × (library_unit i ≡ Ok (x, j))

library_again : (x : LibraryUnit) (i j : Input) → Fits 64 64 (of_library_unit x) i j → Known x i j
unfolding of_library_unit library_unit
library_again (units.Entity x) i j h = let e = entity_again x i j h in (rw e.0 refl, e.1, rw (e.0, e.2) refl)
library_again (units.Architecture x) i j h = let e = architecture_again x i j h in (rw e.0 refl, e.1, rw (e.0, e.2) refl)

unit_again : (x : DesignUnit) (i j : Input) → Fits 64 64 (of_unit x) i j → (suc (length j) ≤ length i) × (unit i ≡ Ok (x, j))
unfolding unit of_unit
unit_again x i j h =
    let s = split h in
    let e = library_again x.library_unit s.mid j s.back in
    (then_less i j s e.1, rw (context_again x.context i s.mid s.front e.0, e.2) refl)

goes : (x : Kind) → (x ≡ k.EndOfText → ⊥) → goes_on x ≡ true
goes x f = rw (not_same x k.EndOfText f) refl

library_kind : (x : LibraryUnit) (i j : Input) → Fits 64 64 (of_library_unit x) i j → goes_on (kind i) ≡ true
unfolding of_library_unit
library_kind (units.Entity x) i j h = goes (kind i) (other (entity_again x i j h).0 (λ z. absurd cc))
library_kind (units.Architecture x) i j h = goes (kind i) (other (architecture_again x i j h).0 (λ z. absurd cc))

item_kind : (x : ContextItem) (i j : Input) → Fits 64 64 (of_context_item x) i j → goes_on (kind i) ≡ true
unfolding of_context_item
item_kind (items.Library ns) i j h = let s = split h in goes (kind i) (other (mark_read i s.mid k.Library s.front).0 (λ z. absurd cc))
item_kind (items.Use xs) i j h = let s = split h in goes (kind i) (other (mark_read i s.mid k.Use s.front).0 (λ z. absurd cc))

-- the first token of a unit is not the end of the text
unit_starts : (x : DesignUnit) (i j : Input) → Fits 64 64 (of_unit x) i j → goes_on (kind i) ≡ true
unfolding of_unit
unit_starts x i j h =
    let s = split h in
    all_begin 64 64 of_context_item (λ y. goes_on y ≡ true) item_kind x.context i s.mid s.front (library_kind x.library_unit s.mid j s.back)

units_again : (xs : List DesignUnit) (i j : Input) → Fits 64 64 (some_of (map of_unit xs)) i j → goes_on (kind j) ≡ false → units_of i ≡ Ok (xs, j)
unfolding units_of left
units_again [] i j h stop = absurd (never_fits i j h)
units_again (x ∷ xs) i j h stop =
    let s = split h in
    rw (
      (unit_again x i s.mid s.front).1,
      many_again 64 64 goes_on unit of_unit (λ ys. all_of (map of_unit ys)) refl (λ a ys. refl) (λ y. Unit {0})
          unit_starts (λ y e. tt) (λ y a b f. (unit_again y a b f).0) (λ y a b f d. (unit_again y a b f).1) xs (length s.mid) (x ∷ []) s.mid j s.back
          (omega arith) tt stop,
    ) refl

-- at the end of the text no unit follows
ended : goes_on (kind []) ≡ false
unfolding kind
ended = rw (is_same k.EndOfText k.EndOfText refl) refl

pub file_again : (x : DesignFile) (i : Input) → IsFile x i → file i ≡ Ok (x, [])
unfolding file finish of_units
file_again x i h = rw (units_again x.units i [] h ended) refl
