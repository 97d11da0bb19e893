-- Soundness for design units and files: the tokens that a reader consumes spell its result. For each reader a lemma says that it `Gives` its spelling.
-- The proof follows the steps of the reader with `then_` and joins the spellings of the parts with `◌&◌`; lists by induction on the remaining tokens.
use Rattle.std.proofs.Common.{◌≡◌, ℕ, zero, suc, Bool, List, [], ◌∷◌, ◌++◌, length, map, refl, sym, subst, ◌∙◌, append_assoc}
use Rattle.std.proofs.lemmas.List.{append-nil}
use Rattle.sim_text_tokens.specs.declared.kind.Kind.{Kind}
use Rattle.sim_text_tokens.specs.declared.kind.Kind.TheVariants as k
use Rattle.sim_text_tree.specs.Name.{Name}
use Rattle.sim_text_tree.specs.declared.declaration.Declaration.{Declaration}
use Rattle.sim_text_tree.specs.Input.{Input, kind, next}
use Rattle.sim_text_grammar.specs.Readers.{left}
use Rattle.sim_text_tree.specs.Writing.{mark, all_of, separated_by, some_of, word_at, Fits}
use Rattle.sim_text_tree.specs.Grammar.{of_declaration, of_suffixes, of_selection, of_selected, of_context_item, of_entity, of_architecture}
use Rattle.sim_text_tree.specs.Grammar.{of_library_unit, of_unit, of_units, IsFile}
use Rattle.sim_text_tree.proofs.Writings.{◌&◌, none, marks}
use Rattle.sim_text_grammar.proofs.Gives.{Gives, then_, map_, done, refused}
use Rattle.sim_text_grammar.proofs.Tokens.{word_gives, eat_gives, eat_then, sees_then, eaten_written, expect_gives}
use Rattle.sim_text_grammar.proofs.Lists.{many_gives, many_all_gives, separated_gives}
use Rattle.sim_text_grammar.specs.Units.{suffixes_from, suffixes, selected, selected_names, context_item, item_by, begins_context, context, entity}
use Rattle.sim_text_grammar.specs.Units.{architecture_body, architecture, library_unit, library_by, unit, goes_on, units_of, finish, finish_by, file}
use Rattle.sim_text_grammar.proofs.DeclarationsSound.{names_give, repeated_gives, ports_give, declarations_give}
use Rattle.sim_text_grammar.proofs.ConcurrentsSound.{concurrents_give}

-- the suffixes found so far, and more that are spelled here
record Suffixed (found : List Name) (i : Input) (r : List Name × Bool) (j : Input) : Type 0 where
  more : List Name
  whole : r.0 ≡ found ++ more
  fits : Fits 64 64 (of_suffixes more r.1) i j
  some : Fits 64 64 (of_selection more r.1) i j

selects : (x : Name) (xs : List Name) (all : Bool) (i j : Input) → Fits 64 64 (of_suffixes (x ∷ xs) all) i j → Fits 64 64 (of_selection (x ∷ xs) all) i j
selects x xs all i j h = h

suffixes_give : (m : ℕ) (found : List Name) (i : Input) → Gives (Suffixed found i) (suffixes_from m found i)
unfolding suffixes_from
suffixes_give zero found i = refused
suffixes_give (suc m) found i =
    then_ (expect_gives {p = 64} {n = 64} k.Dot i (λ z. absurd cc)) (λ u j x.
    eat_then _ _ 64 64 k.All j (λ z. absurd cc)
    (λ y. done (record { more = []; whole = sym (append-nil found); fits = x & y; some = x & y }))
    (λ y. then_ (word_gives {p = 64} {n = 64} j) (λ w q z. sees_then k.Dot q
    (λ e. map_ (suffixes_give m (found ++ w ∷ []) q) (λ r s f. record
    { more = w ∷ f.more; whole = f.whole ∙ append_assoc found (w ∷ []) f.more; fits = x & z & f.fits; some = x & z & f.fits }))
    (λ e. done (record { more = w ∷ []; whole = refl; fits = x & z & none; some = x & z & none })))))

selected_gives : (i : Input) → Gives (λ x m. Fits 64 64 (of_selected x) i m) (selected i)
unfolding selected suffixes of_selected left
selected_gives i =
    then_ (word_gives {p = 64} {n = 64} i) (λ w j x.
    then_ (suffixes_give (length j) [] j) (λ r m f.
    done (x & rw f.whole f.some)))

selected_names_give : (i : Input) → Gives (λ xs m. Fits 64 64 (separated_by k.Comma (map of_selected xs)) i m) (selected_names i)
unfolding selected_names
selected_names_give i = separated_gives 64 64 k.Comma selected of_selected (λ z. absurd cc) (λ j. selected_gives j) i

item_by_gives : (i : Input) (x : Kind) → kind i ≡ x → Gives (λ y m. Fits 64 64 (of_context_item y) i m) (item_by x i)
unfolding of_context_item
item_by_gives i k.Library e =
    then_ (names_give {p = 64} {n = 64} (next i)) (λ ns j x.
    then_ (expect_gives {p = 64} {n = 64} k.Semicolon j (λ z. absurd cc)) (λ u m y.
    done (marks i k.Library e (λ z. absurd cc) & x & y)))
item_by_gives i _ e =
    then_ (expect_gives {p = 64} {n = 64} k.Use i (λ z. absurd cc)) (λ u a x.
    then_ (selected_names_give a) (λ ns j y.
    then_ (expect_gives {p = 64} {n = 64} k.Semicolon j (λ z. absurd cc)) (λ v m z.
    done (x & y & z))))

context_gives : (i : Input) → Gives (λ xs m. Fits 64 64 (all_of (map of_context_item xs)) i m) (context i)
unfolding context context_item
context_gives i = many_all_gives 64 64 begins_context context_item of_context_item (λ j e. item_by_gives j (kind j) refl) i

entity_gives : (i : Input) → Gives (λ x m. Fits 64 64 (of_entity x) i m) (entity i)
unfolding entity of_entity
entity_gives i =
    then_ (expect_gives {p = 64} {n = 64} k.Entity i (λ z. absurd cc)) (λ u a q.
    then_ (word_gives {p = 64} {n = 64} a) (λ x b r.
    then_ (expect_gives {p = 64} {n = 64} k.Is b (λ z. absurd cc)) (λ v c s.
    then_ (ports_give {p = 64} {n = 64} c) (λ ps d t.
    then_ (expect_gives {p = 64} {n = 64} k.End d (λ z. absurd cc)) (λ w e f.
    then_ (eat_gives {p = 64} {n = 64} k.Entity e (λ z. absurd cc)) (λ word g h.
    then_ (repeated_gives {p = 64} {n = 64} x.text g) (λ again j l.
    then_ (expect_gives {p = 64} {n = 64} k.Semicolon j (λ z. absurd cc)) (λ y m n.
    done (q & r & s & t & f & eaten_written k.Entity e g word h & l & n)))))))))

architecture_body_gives : (x y : Name) (ds : List Declaration) (i a b c d e f : Input) → Fits 64 64 (mark k.Architecture) i a
    → Fits 64 64 (word_at x) a b → Fits 64 64 (mark k.Of) b c → Fits 64 64 (word_at y) c d → Fits 64 64 (mark k.Is) d e
    → Fits 64 64 (all_of (map of_declaration ds)) e f → Gives (λ z m. Fits 64 64 (of_architecture z) i m) (architecture_body x y ds f)
unfolding architecture_body of_architecture
architecture_body_gives x y ds i a b c d e f q r s t u v =
    then_ (expect_gives {p = 64} {n = 64} k.Begin f (λ z. absurd cc)) (λ w g h.
    then_ (concurrents_give g) (λ cs j l.
    then_ (expect_gives {p = 64} {n = 64} k.End j (λ z. absurd cc)) (λ w m n.
    then_ (eat_gives {p = 64} {n = 64} k.Architecture m (λ z. absurd cc)) (λ word o p.
    then_ (repeated_gives {p = 64} {n = 64} x.text o) (λ again i2 p2.
    then_ (expect_gives {p = 64} {n = 64} k.Semicolon i2 (λ z. absurd cc)) (λ w i3 p3.
    done (q & r & s & t & u & v & h & l & n & eaten_written k.Architecture m o word p & p2 & p3)))))))

architecture_gives : (i : Input) → Gives (λ x m. Fits 64 64 (of_architecture x) i m) (architecture i)
unfolding architecture
architecture_gives i =
    then_ (expect_gives {p = 64} {n = 64} k.Architecture i (λ z. absurd cc)) (λ w a q.
    then_ (word_gives {p = 64} {n = 64} a) (λ x b r.
    then_ (expect_gives {p = 64} {n = 64} k.Of b (λ z. absurd cc)) (λ w c s.
    then_ (word_gives {p = 64} {n = 64} c) (λ y d t.
    then_ (expect_gives {p = 64} {n = 64} k.Is d (λ z. absurd cc)) (λ w e u.
    then_ (declarations_give {p = 64} {n = 64} e) (λ ds f v.
    architecture_body_gives x y ds i a b c d e f q r s t u v))))))

library_by_gives : (i : Input) (x : Kind) → Gives (λ y m. Fits 64 64 (of_library_unit y) i m) (library_by x i)
unfolding of_library_unit
library_by_gives i k.Architecture = then_ (architecture_gives i) (λ x m h. done h)
library_by_gives i _ = then_ (entity_gives i) (λ x m h. done h)

unit_gives : (i : Input) → Gives (λ x m. Fits 64 64 (of_unit x) i m) (unit i)
unfolding unit of_unit library_unit
unit_gives i =
    then_ (context_gives i) (λ cs j x.
    then_ (library_by_gives j (kind j)) (λ u m y.
    done (x & y)))

units_give : (i : Input) → Gives (λ xs m. Fits 64 64 (some_of (map of_unit xs)) i m) (units_of i)
unfolding units_of left
units_give i = then_ (unit_gives i) (λ x j h.
    map_ (many_gives 64 64 goes_on unit of_unit (λ xs. all_of (map of_unit xs)) refl (λ a xs. refl) (λ m e. unit_gives m) (length j) (x ∷ []) j)
    (λ xs m r. rw r.whole (h & r.fits)))

finish_by_gives : (i m : Input) → m ≡ i → Gives (λ u q. (q ≡ i) × (q ≡ [])) (finish_by m m)
finish_by_gives i [] e = done (e, refl)
finish_by_gives i (t ∷ ts) e = refused

pub file_gives : (i : Input) → Gives (λ x m. IsFile x i) (file i)
unfolding file finish of_units
file_gives i =
    then_ (units_give i) (λ xs m h.
    then_ (finish_by_gives m m refl) (λ u q e.
    done (subst (λ (z : Input). Fits 64 64 (some_of (map of_unit xs)) i z) (sym e.0 ∙ e.1) h)))
