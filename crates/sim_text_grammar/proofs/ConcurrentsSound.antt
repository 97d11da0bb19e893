-- Soundness for concurrent statements: the tokens that a reader consumes spell its result. For each reader a lemma says that it `Gives` its spelling.
-- The proof follows the steps of the reader with `then_` and joins the spellings of the parts with `◌&◌`; lists by induction on the remaining tokens.
use Rattle.std.proofs.Common.{◌≡◌, ℕ, zero, suc, Bool, true, false, ◌||◌, List, [], ◌∷◌, ◌++◌, length, map, Option, Some, None, refl, ◌∙◌, append_assoc}
use Rattle.sim_text_tokens.specs.declared.kind.Kind.{Kind}
use Rattle.sim_text_tokens.specs.declared.kind.Kind.TheVariants as k
use Rattle.sim_text_tree.specs.Name.{Name}
use Rattle.sim_text_tree.specs.declared.declaration.ObjectDeclaration.{ObjectDeclaration}
use Rattle.sim_text_tree.specs.declared.unit.Sensitivity.{Sensitivity}
use Rattle.sim_text_tree.specs.declared.unit.Association.{Association}
use Rattle.sim_text_tree.specs.declared.unit.Instantiated.{Instantiated}
use Rattle.sim_text_tree.specs.declared.unit.Instantiated.TheVariants as made
use Rattle.sim_text_tree.specs.Input.{Input, kind, next}
use Rattle.sim_text_grammar.specs.Readers.{left}
use Rattle.sim_text_tree.specs.Writing.{Writing, mark, never, ◌▸◌, all_of, if_written, word_at, Fits}
use Rattle.sim_text_tree.specs.Grammar as g
use Rattle.sim_text_tree.specs.Grammar.{of_sensitivity, of_variable, of_process, of_actual, formally, is_named, of_association, of_associations}
use Rattle.sim_text_tree.specs.Grammar.{of_port_map, of_chosen, of_instantiated, of_instance, of_concurrent}
use Rattle.sim_text_tree.proofs.Writings.{◌&◌, split, none, never_fits, mark_at, marks}
use Rattle.sim_text_grammar.proofs.Gives.{Gives, then_, map_, done, refused}
use Rattle.sim_text_grammar.proofs.Tokens.{word_gives, literal_gives, eat_gives, eat_then, eaten_written, expect_gives}
use Rattle.sim_text_grammar.proofs.Lists.{many_all_gives}
use Rattle.sim_text_grammar.proofs.WaveformsSound as waves
use Rattle.sim_text_grammar.specs.Concurrents.{sensitivity, process_body, process, actual, actual_by, associated, named_association, free_association}
use Rattle.sim_text_grammar.specs.Concurrents.{free_by, association, associations_from, associations, port_map, instance, chosen, entity_named}
use Rattle.sim_text_grammar.specs.Concurrents.{concurrent_assigned, concurrent_process, postponed, postponed_again, postponed_by, target_by}
use Rattle.sim_text_grammar.specs.Concurrents.{labelled, labelled_by, first_by}
use Rattle.sim_text_grammar.specs.Concurrents.{concurrent}
use Rattle.sim_text_grammar.specs.Concurrents.{concurrent_by, begins_concurrent, concurrents}
use Rattle.sim_text_grammar.proofs.DeclarationsSound.{names_give, variables_give}
use Rattle.sim_text_grammar.proofs.StatementsSound.{label_again_gives, statements_give}

sensitivity_gives : (i : Input) → Gives (λ x m. Fits 64 64 (of_sensitivity x) i m) (sensitivity i)
unfolding sensitivity
sensitivity_gives i = eat_then _ _ 64 64 k.All i (λ z. absurd cc) (λ x. done x) (λ x. then_ (names_give {p = 64} {n = 64} i) (λ ns j y. done y))

postponed_again_gives : (postponed : Bool) (i : Input) → Gives (λ b j. Fits 64 64 (g.postponed_again b postponed) i j) (postponed_again postponed i)
postponed_again_gives true i = map_ (eat_gives {p = 64} {n = 64} k.Postponed i (λ z. absurd cc)) (λ b j e. again b j (eaten_written k.Postponed i j b e))
  where
    again : (b : Bool) (j : Input) → Fits 64 64 (if_written b (mark k.Postponed)) i j → Fits 64 64 (g.postponed_again b true) i j
    again true j h = h
    again false j h = h
postponed_again_gives false i = done none

process_body_gives : (label : Option Name) (postponed : Bool) (x : Sensitivity) (is : Bool) (vs : List ObjectDeclaration) (i z a b c d e f t : Input)
    → Fits 64 64 (g.labelled label) i z → Fits 64 64 (if_written postponed (mark k.Postponed)) z a → Fits 64 64 (mark k.Process) a b
    → Fits 64 64 (mark k.LeftParen) b c → Fits 64 64 (of_sensitivity x) c d
    → Fits 64 64 (mark k.RightParen) d e → Fits 64 64 (if_written is (mark k.Is)) e f → Fits 64 64 (all_of (map of_variable vs)) f t
    → Gives (λ y m. Fits 64 64 (of_process y) i m) (process_body label postponed x is vs t)
unfolding process_body of_process
process_body_gives label postponed x is vs i z₀ a b c d e f t q written r s u v w y =
    then_ (expect_gives {p = 64} {n = 64} k.Begin t (λ z. absurd cc)) (λ h j l.
    then_ (statements_give j) (λ ss m o.
    then_ (expect_gives {p = 64} {n = 64} k.End m (λ z. absurd cc)) (λ h n p.
    then_ (postponed_again_gives postponed n) (λ word_again i1 p1.
    then_ (expect_gives {p = 64} {n = 64} k.Process i1 (λ z. absurd cc)) (λ h i2 p2.
    then_ (label_again_gives {p = 64} {n = 64} label i2) (λ again i3 p3.
    then_ (expect_gives {p = 64} {n = 64} k.Semicolon i3 (λ z. absurd cc)) (λ h i4 p4.
    done (q & written & r & s & u & v & w & y & l & o & p & p1 & p2 & p3 & p4))))))))

process_gives : (label : Option Name) (postponed : Bool) (i z a : Input) → Fits 64 64 (g.labelled label) i z
    → Fits 64 64 (if_written postponed (mark k.Postponed)) z a → Gives (λ y m. Fits 64 64 (of_process y) i m) (process label postponed a)
unfolding process
process_gives label postponed i z a q written =
    then_ (expect_gives {p = 64} {n = 64} k.Process a (λ z. absurd cc)) (λ h b r.
    then_ (expect_gives {p = 64} {n = 64} k.LeftParen b (λ z. absurd cc)) (λ h c s.
    then_ (sensitivity_gives c) (λ x d u.
    then_ (expect_gives {p = 64} {n = 64} k.RightParen d (λ z. absurd cc)) (λ h e v.
    then_ (eat_gives {p = 64} {n = 64} k.Is e (λ z. absurd cc)) (λ is f w.
    then_ (variables_give {p = 64} {n = 64} f) (λ vs t y.
    process_body_gives label postponed x is vs i z a b c d e f t q written r s u v (eaten_written k.Is e f is w) y))))))

-- ---- instances

actual_by_gives : (i : Input) (x : Kind) → kind i ≡ x → Gives (λ y m. Fits 64 64 (of_actual y) i m) (actual_by x i)
actual_by_gives i k.Literal e = then_ (literal_gives {p = 64} {n = 64} i) (λ v m h. done h)
actual_by_gives i k.Open e = done (mark_at i k.Open e (λ z. absurd cc))
actual_by_gives i _ e = then_ (word_gives {p = 64} {n = 64} i) (λ x m h. done h)

actual_gives : (i : Input) → Gives (λ y m. Fits 64 64 (of_actual y) i m) (actual i)
unfolding actual
actual_gives i = actual_by_gives i (kind i) refl

associated_gives : (named : Bool) (f : Name) (i j : Input) → Fits 64 64 (formally named (Some f)) i j
    → Gives (λ y m. Fits 64 64 (of_association named y) i m) (associated f j)
unfolding associated
associated_gives named f i j h = then_ (actual_gives j) (λ x m y. done (h & y))

named_gives : (i : Input) → Gives (λ y m. Fits 64 64 (of_association true y) i m) (named_association i)
unfolding named_association
named_gives i =
    then_ (word_gives {p = 64} {n = 64} i) (λ f j w.
    then_ (expect_gives {p = 64} {n = 64} k.Arrow j (λ z. absurd cc)) (λ u m a.
    associated_gives true f i m (w & a)))

free_by_gives : (i : Input) (x : Kind) → Gives (λ y m. Fits 64 64 (of_association false y) i m) (free_by x i)
free_by_gives i k.Word =
    then_ (word_gives {p = 64} {n = 64} i) (λ f j w.
    eat_then _ _ 64 64 k.Arrow j (λ z. absurd cc) (λ a. associated_gives false f i (next j) (w & a)) (λ a. done (none & w)))
free_by_gives i _ = then_ (actual_gives i) (λ x m y. done (none & y))

association_gives : (named : Bool) (i : Input) → Gives (λ y m. Fits 64 64 (of_association named y) i m) (association named i)
unfolding association free_association
association_gives true i = named_gives i
association_gives false i = free_by_gives i (kind i)

-- associations, the first without a comma
abbrev pub of_open : Bool → List Association → Writing
of_open named [] = never
of_open named (a ∷ more) = of_association named a ▸ of_associations (named || is_named a.formal) more

pub record Associated (named : Bool) (found : List Association) (i : Input) (xs : List Association) (j : Input) : Type 0 where
  pub more : List Association
  pub whole : xs ≡ found ++ more
  pub fits : Fits 64 64 (of_open named more) i j

after_comma : (named : Bool) (xs : List Association) (i j m : Input) → Fits 64 64 (mark k.Comma) i j → Fits 64 64 (of_open named xs) j m
    → Fits 64 64 (of_associations named xs) i m
after_comma named [] i j m x y = absurd (never_fits j m y)
after_comma named (a ∷ more) i j m x y = x & y

associations_give : (m : ℕ) (named : Bool) (found : List Association) (i : Input) → Gives (Associated named found i) (associations_from m named found i)
unfolding associations_from
associations_give zero named found i = refused
associations_give (suc m) named found i =
    then_ (association_gives named i) (λ a j x.
    eat_then _ _ 64 64 k.Comma j (λ z. absurd cc)
    (λ y. map_ (associations_give m (named || is_named a.formal) (found ++ a ∷ []) (next j)) (λ xs q r.
    record {
      more = a ∷ r.more;
      whole = r.whole ∙ append_assoc found (a ∷ []) r.more;
      fits = x & after_comma (named || is_named a.formal) r.more j
          (next j) q y r.fits;
    }))
    (λ y. done (record { more = a ∷ []; whole = refl; fits = x & none })))

port_map_fits : (xs : List Association) (i a b c d e : Input) → Fits 64 64 (mark k.Port) i a → Fits 64 64 (mark k.Map) a b
    → Fits 64 64 (mark k.LeftParen) b c → Fits 64 64 (of_open false xs) c d → Fits 64 64 (mark k.RightParen) d e → Fits 64 64 (of_port_map xs) i e
port_map_fits [] i a b c d e q r s t u = absurd (never_fits c d t)
port_map_fits (x ∷ xs) i a b c d e q r s t u = let v = split t in q & r & s & v.front & v.back & u

port_map_gives : (i : Input) → Gives (λ xs m. Fits 64 64 (of_port_map xs) i m) (port_map i)
unfolding port_map associations left
port_map_gives i = eat_then _ _ 64 64 k.Port i (λ z. absurd cc) (λ q.
    then_ (expect_gives {p = 64} {n = 64} k.Map (next i) (λ z. absurd cc)) (λ h b r.
    then_ (expect_gives {p = 64} {n = 64} k.LeftParen b (λ z. absurd cc)) (λ h c s.
    then_ (associations_give (length c) false [] c) (λ xs d t.
    then_ (expect_gives {p = 64} {n = 64} k.RightParen d (λ z. absurd cc)) (λ h e u.
    done (port_map_fits xs i (next i) b c d e q r s (rw t.whole t.fits) u))))))
    (λ q. done none)

instance_gives : (label : Name) (unit : Instantiated) (i a b c : Input) → Fits 64 64 (word_at label) i a → Fits 64 64 (mark k.Colon) a b
    → Fits 64 64 (of_instantiated unit) b c → Gives (λ y m. Fits 64 64 (of_concurrent y) i m) (instance label unit c)
unfolding instance of_instance of_concurrent
instance_gives label unit i a b c x y z =
    then_ (port_map_gives c) (λ xs d u.
    then_ (expect_gives {p = 64} {n = 64} k.Semicolon d (λ z. absurd cc)) (λ h e v.
    done (x & y & z & u & v)))

chosen_gives : (i : Input) → Gives (λ x m. Fits 64 64 (of_chosen x) i m) (chosen i)
unfolding chosen
chosen_gives i = eat_then _ _ 64 64 k.LeftParen i (λ z. absurd cc) (λ x.
    then_ (word_gives {p = 64} {n = 64} (next i)) (λ w j y.
    then_ (expect_gives {p = 64} {n = 64} k.RightParen j (λ z. absurd cc)) (λ h m z.
    done (x & y & z))))
    (λ x. done none)

entity_named_gives : (i : Input) → kind i ≡ k.Entity → Gives (λ x m. Fits 64 64 (of_instantiated x) i m) (entity_named i)
unfolding entity_named
entity_named_gives i e =
    then_ (word_gives {p = 64} {n = 64} (next i)) (λ l a x.
    then_ (expect_gives {p = 64} {n = 64} k.Dot a (λ z. absurd cc)) (λ h b y.
    then_ (word_gives {p = 64} {n = 64} b) (λ w c z.
    then_ (chosen_gives c) (λ o d u.
    done (marks i k.Entity e (λ z. absurd cc) & x & y & z & u)))))

-- ---- statements

assigned_gives : (label : Option Name) (postponed : Bool) (target : Name) (i s t j : Input) → Fits 64 64 (g.labelled label) i s
    → Fits 64 64 (if_written postponed (mark k.Postponed)) s t → Fits 64 64 (word_at target) t j
    → Gives (λ y m. Fits 64 64 (of_concurrent y) i m) (concurrent_assigned label postponed target j)
unfolding concurrent_assigned of_concurrent
assigned_gives label postponed target i s t j l o w = then_ (waves.assigned_gives {n = 64} label postponed target i s t j l o w) (λ a m h. done h)

processed_gives : (label : Option Name) (postponed : Bool) (i s a : Input) → Fits 64 64 (g.labelled label) i s
    → Fits 64 64 (if_written postponed (mark k.Postponed)) s a
    → Gives (λ y m. Fits 64 64 (of_concurrent y) i m) (concurrent_process label postponed a)
unfolding concurrent_process of_concurrent
processed_gives label postponed i s a l o = then_ (process_gives label postponed i s a l o) (λ x m h. done h)

postponed_by_gives : (label : Option Name) (i a : Input) → Fits 64 64 (g.labelled label) i a → kind a ≡ k.Postponed → (x : Kind)
    → Gives (λ y m. Fits 64 64 (of_concurrent y) i m) (postponed_by label x (next a))
postponed_by_gives label i a l e k.Process = processed_gives label true i a (next a) l (marks a k.Postponed e (λ z. absurd cc))
postponed_by_gives label i a l e _ =
    then_ (word_gives {p = 64} {n = 64} (next a)) (λ x j w.
    assigned_gives label true x i a (next a) j l (marks a k.Postponed e (λ z. absurd cc)) w)

postponed_gives : (label : Option Name) (i a : Input) → Fits 64 64 (g.labelled label) i a → kind a ≡ k.Postponed
    → Gives (λ y m. Fits 64 64 (of_concurrent y) i m) (postponed label a)
unfolding postponed
postponed_gives label i a l e = postponed_by_gives label i a l e (kind (next a))

target_by_gives : (label x : Name) (i a b j : Input) → Fits 64 64 (word_at label) i a → Fits 64 64 (mark k.Colon) a b → Fits 64 64 (word_at x) b j
    → (y : Kind) → Gives (λ y m. Fits 64 64 (of_concurrent y) i m) (target_by label x y j)
target_by_gives label x i a b j l c w k.SignalAssign = assigned_gives (Some label) false x i b b j (l & c) none w
target_by_gives label x i a b j l c w _ = instance_gives label (made.Component false x) i a b j l c (none & w)

labelled_by_gives : (label : Name) (i a b : Input) → Fits 64 64 (word_at label) i a → Fits 64 64 (mark k.Colon) a b → (x : Kind) → kind b ≡ x
    → Gives (λ y m. Fits 64 64 (of_concurrent y) i m) (labelled_by label x b)
labelled_by_gives label i a b l c k.Process e = processed_gives (Some label) false i b b (l & c) none
labelled_by_gives label i a b l c k.Postponed e = postponed_gives (Some label) i b (l & c) e
labelled_by_gives label i a b l c k.Component e =
    then_ (word_gives {p = 64} {n = 64} (next b)) (λ x j w.
    instance_gives label (made.Component true x) i a b j l c (marks b k.Component e (λ z. absurd cc) & w))
labelled_by_gives label i a b l c k.Entity e =
    then_ (entity_named_gives b e) (λ u j w. instance_gives label u i a b j l c w)
labelled_by_gives label i a b l c _ e =
    then_ (word_gives {p = 64} {n = 64} b) (λ x j w. target_by_gives label x i a b j l c w (kind j))

first_by_gives : (x : Name) (i j : Input) → Fits 64 64 (word_at x) i j → (y : Kind) → Gives (λ y m. Fits 64 64 (of_concurrent y) i m) (first_by x y j)
unfolding labelled
first_by_gives x i j w k.SignalAssign = assigned_gives None false x i i i j none none w
first_by_gives x i j w _ =
    then_ (expect_gives {p = 64} {n = 64} k.Colon j (λ z. absurd cc)) (λ h b c.
    labelled_by_gives x i j b w c (kind b) refl)

concurrent_by_gives : (i : Input) (x : Kind) → kind i ≡ x → Gives (λ y m. Fits 64 64 (of_concurrent y) i m) (concurrent_by x i)
concurrent_by_gives i k.Process e = processed_gives None false i i i none none
concurrent_by_gives i k.Postponed e = postponed_gives None i i none e
concurrent_by_gives i _ e = then_ (word_gives {p = 64} {n = 64} i) (λ x j w. first_by_gives x i j w (kind j))

concurrent_gives : (i : Input) → Gives (λ y m. Fits 64 64 (of_concurrent y) i m) (concurrent i)
unfolding concurrent
concurrent_gives i = concurrent_by_gives i (kind i) refl

pub concurrents_give : (i : Input) → Gives (λ xs m. Fits 64 64 (all_of (map of_concurrent xs)) i m) (concurrents i)
unfolding concurrents
concurrents_give i = many_all_gives 64 64 begins_concurrent concurrent of_concurrent (λ j e. concurrent_gives j) i
