-- Completeness for concurrent statements: reading the tokens that spell one returns it. `split` takes the spelling apart, which gives the tokens that the
-- reader sees at each step, and so its answer; lists by induction on the remaining tokens. A token after a list or an optional part must not continue it,
-- so lemmas require this of the next token.
use Rattle.std.proofs.Common.{◌≡◌, ℕ, zero, suc, ◌≤◌, Bool, true, false, ◌||◌, List, [], ◌∷◌, ◌++◌, length, map, Option, Some, None, Ok, refl}
use Rattle.std.proofs.Common.{append_assoc, arith}
use Rattle.sim_text_tokens.specs.declared.kind.Kind.{Kind}
use Rattle.sim_text_tokens.specs.declared.kind.Kind.TheVariants as k
use Rattle.sim_text_tree.specs.Name.{Name}
use Rattle.sim_text_tree.specs.declared.declaration.ObjectDeclaration.{ObjectDeclaration}
use Rattle.sim_text_tree.specs.declared.sequential.Sequential.{Sequential}
use Rattle.sim_text_tree.specs.declared.waveform.DelayMechanism.{DelayMechanism}
use Rattle.sim_text_tree.specs.declared.waveform.ConditionalWaveforms.{ConditionalWaveforms}
use Rattle.sim_text_tree.specs.declared.waveform.ConcurrentSignalAssignment.{ConcurrentSignalAssignment}
use Rattle.sim_text_tree.specs.declared.unit.Sensitivity.{Sensitivity}
use Rattle.sim_text_tree.specs.declared.unit.Sensitivity.TheVariants as sensitivities
use Rattle.sim_text_tree.specs.declared.unit.Process.{Process}
use Rattle.sim_text_tree.specs.declared.unit.Actual.{Actual}
use Rattle.sim_text_tree.specs.declared.unit.Actual.TheVariants as x
use Rattle.sim_text_tree.specs.declared.unit.Association.{Association}
use Rattle.sim_text_tree.specs.declared.unit.Instantiated.{Instantiated}
use Rattle.sim_text_tree.specs.declared.unit.Instantiated.TheVariants as made
use Rattle.sim_text_tree.specs.declared.unit.Instance.{Instance}
use Rattle.sim_text_tree.specs.declared.unit.Concurrent.{Concurrent}
use Rattle.sim_text_tree.specs.declared.unit.Concurrent.TheVariants as c
use Rattle.sim_text_tree.specs.Input.{Input, kind}
use Rattle.sim_text_grammar.specs.Readers.{left}
use Rattle.sim_text_tree.specs.Writing.{Mark, WordAt, mark, ◌▸◌, all_of, if_written, Fits, word_at}
use Rattle.sim_text_tree.specs.Grammar as g
use Rattle.sim_text_tree.specs.Grammar.{of_concurrent_assignment, of_sensitivity, of_variable, of_sequence, of_process, of_actual}
use Rattle.sim_text_tree.specs.Grammar.{formally, is_named, of_association, of_port_map, of_chosen, of_instantiated, of_instance, of_concurrent}
use Rattle.sim_text_tree.proofs.Writings.{◌&◌, split, only, none_read, never_fits, mark_at_read, mark_read, shorter, less, less_then}
use Rattle.sim_text_grammar.proofs.Tokens.{other, word_read, word_kind, literal_read, literal_kind, eat_read, eat_not, expect_read, written_read}
use Rattle.sim_text_grammar.proofs.Lists.{many_all_again, all_begin}
use Rattle.sim_text_grammar.proofs.WaveformsComplete as waves
use Rattle.sim_text_grammar.specs.Concurrents.{sensitivity, process_body, process, actual, associated, named_association, free_association, association}
use Rattle.sim_text_grammar.specs.Concurrents.{associations_from, associations, port_map, instance, chosen, entity_named, concurrent_assigned}
use Rattle.sim_text_grammar.specs.Concurrents.{concurrent_process, postponed, postponed_again, target_by, labelled, first_by}
use Rattle.sim_text_grammar.specs.Concurrents.{concurrent, begins_concurrent, concurrents}
use Rattle.sim_text_grammar.proofs.DeclarationsComplete.{names_begin, names_again, variables_again}
use Rattle.sim_text_grammar.proofs.StatementsComplete.{label_again_again, statements_again}
use Rattle.sim_text_grammar.proofs.ConcurrentsSound.{of_open}

sensitivity_again : (y : Sensitivity) (i j : Input) → Fits 64 64 (of_sensitivity y) i j → kind j ≡ k.RightParen → sensitivity i ≡ Ok (y, j)
unfolding sensitivity
sensitivity_again sensitivities.All i j h e = rw (eat_read k.All i j h) refl
sensitivity_again (sensitivities.Names ns) i j h e = rw (
  eat_not k.All i (other (names_begin ns i j h) (λ z. absurd cc)),
  names_again ns i j h
      (other e (λ z. absurd cc)),
) refl

variable_kind : (v : ObjectDeclaration) (i j : Input) → Fits 64 64 (of_variable v) i j → kind i ≡ k.Is → ⊥
unfolding of_variable
variable_kind v i j h = let s = split h in other (mark_read i s.mid k.Variable s.front).0 (λ z. absurd cc)

postponed_again_again : (b postponed : Bool) (i j : Input) → Fits 64 64 (g.postponed_again b postponed) i j → kind j ≡ k.Process
    → postponed_again postponed i ≡ Ok (b, j)
postponed_again_again false false i j h e = rw (none_read h) refl
postponed_again_again false true i j h e = rw (none_read h) (eat_not k.Postponed j (other e (λ z. absurd cc)))
postponed_again_again true false i j h e = absurd (never_fits i j h)
postponed_again_again true true i j h e = eat_read k.Postponed i j h

-- a process, after its label and `postponed`
process_again : (y : Process) (i j : Input) → Fits 64 64
    (mark k.Process ▸ mark k.LeftParen ▸ of_sensitivity y.sensitivity ▸ mark k.RightParen ▸ if_written y.is (mark k.Is) ▸
    all_of (map of_variable y.variables) ▸ mark k.Begin ▸ of_sequence y.statements ▸ mark k.End ▸
    g.postponed_again y.postponed_repeated y.postponed ▸ mark k.Process ▸
    g.label_again y.label_repeated y.label ▸ mark k.Semicolon) i j → process y.label y.postponed i ≡ Ok (y, j)
unfolding process process_body
process_again y i j h =
    let a = split h in
    let b = split a.back in
    let d = split b.back in
    let e = split d.back in
    let f = split e.back in
    let l = split f.back in
    let m = split l.back in
    let n = split m.back in
    let o = split n.back in
    let again = split o.back in
    let p = split again.back in
    let q = split p.back in
    let begin = (mark_read l.mid m.mid k.Begin m.front).0 in
    let end = (mark_read n.mid o.mid k.End o.front).0 in
    rw (
      expect_read k.Process i a.mid a.front,
      expect_read k.LeftParen a.mid b.mid b.front,
      sensitivity_again y.sensitivity b.mid d.mid d.front
          (mark_read d.mid e.mid k.RightParen e.front).0,
      expect_read k.RightParen d.mid e.mid e.front,
      written_read k.Is e.mid f.mid y.is f.front
          (all_begin 64 64 of_variable (λ z. z ≡ k.Is → ⊥) variable_kind y.variables f.mid l.mid l.front (other begin (λ z. absurd cc))),
      variables_again y.variables f.mid l.mid l.front (other begin (λ z. absurd cc)),
      expect_read k.Begin l.mid m.mid m.front,
      statements_again
          y.statements m.mid n.mid n.front (rw end refl),
      expect_read k.End n.mid o.mid o.front,
      postponed_again_again y.postponed_repeated y.postponed o.mid again.mid again.front (mark_read again.mid p.mid k.Process p.front).0,
      expect_read k.Process again.mid p.mid p.front,
      label_again_again y.label_repeated y.label p.mid q.mid q.front (other (mark_read q.mid j k.Semicolon q.back).0 (λ z. absurd cc)),
      expect_read
          k.Semicolon q.mid j q.back,
    ) refl

-- ---- instances

actual_again : (y : Actual) (i j : Input) → Fits 64 64 (of_actual y) i j → actual i ≡ Ok (y, j)
unfolding actual
actual_again (x.Named w) i j h = rw (word_kind i j w h, word_read i j w h) refl
actual_again (x.Literal v at) i j h = rw (literal_kind i j v at h, literal_read i j v at h) refl
actual_again (x.Open at) i j h = let w = mark_at_read i j k.Open at h in rw (w.0, w.1.0, w.1.1) refl

association_by : (named : Bool) (f : Option Name) (y : Actual) (i j : Input) → Fits 64 64 (formally named f ▸ of_actual y) i j
    → (kind j ≡ k.Arrow → ⊥) → association named i ≡ Ok (record { formal = f; actual = y }, j)
unfolding association named_association free_association associated
association_by true None y i j h stop = let s = split h in absurd (never_fits i s.mid s.front)
association_by true (Some f) y i j h stop =
    let s = split h in
    let t = split s.front in
    rw (word_read i t.mid f t.front, expect_read k.Arrow t.mid s.mid t.back, actual_again y s.mid j s.back) refl
association_by false (Some f) y i j h stop =
    let s = split h in
    let t = split s.front in
    rw (word_kind i t.mid f t.front, word_read i t.mid f t.front, eat_read k.Arrow t.mid s.mid t.back, actual_again y s.mid j s.back) refl
association_by false None (x.Named w) i j h stop =
    let s = split h in
    let v = only (none_read s.front) s.back in
    rw (word_kind i j w v, word_read i j w v, eat_not k.Arrow j stop) refl
association_by false None (x.Literal v at) i j h stop =
    let s = split h in
    let w = only (none_read s.front) s.back in
    rw (literal_kind i j v at w, actual_again (x.Literal v at) i j w) refl
association_by false None (x.Open at) i j h stop =
    let s = split h in
    let w = only (none_read s.front) s.back in
    rw ((mark_at_read i j k.Open at w).0, actual_again (x.Open at) i j w) refl

association_again : (named : Bool) (y : Association) (i j : Input) → Fits 64 64 (of_association named y) i j → (kind j ≡ k.Arrow → ⊥)
    → association named i ≡ Ok (y, j)
association_again named y i j h stop = association_by named y.formal y.actual i j h stop

some_left : (j : Input) → kind j ≡ k.RightParen → suc zero ≤ length j
unfolding kind
some_left [] e = absurd cc
some_left (t ∷ ts) e = omega arith

associations_again : (m : ℕ) (named : Bool) (found xs : List Association) (i j : Input) → Fits 64 64 (of_open named xs) i j → length i ≤ m
    → kind j ≡ k.RightParen → associations_from m named found i ≡ Ok (found ++ xs, j)
unfolding associations_from
associations_again zero named found xs i j h len e = let l = shorter i j h in let o = some_left j e in absurd (omega arith)
associations_again (suc m) named found [] i j h len e = absurd (never_fits i j h)
associations_again (suc m) named found (y ∷ []) i j h len e =
    let s = split h in
    let z = none_read s.back in
    rw (association_again named y i s.mid s.front (rw z (other e (λ w. absurd cc))), z, eat_not k.Comma j (other e (λ w. absurd cc))) refl
associations_again (suc m) named found (y ∷ w ∷ xs) i j h len e =
    let s = split h in
    let t = split s.back in
    let comma = (mark_read s.mid t.mid k.Comma t.front).0 in
    let l = shorter i s.mid s.front in
    let o = shorter s.mid t.mid t.front in
    rw (
      association_again named y i s.mid s.front (other comma (λ z. absurd cc)),
      eat_read k.Comma s.mid t.mid t.front,
      associations_again m
          (named || is_named y.formal) (found ++ y ∷ []) (w ∷ xs) t.mid j t.back (omega arith) e,
      append_assoc found (y ∷ []) (w ∷ xs),
    ) refl

port_map_again : (xs : List Association) (i j : Input) → Fits 64 64 (of_port_map xs) i j → kind j ≡ k.Semicolon
    → (port_map i ≡ Ok (xs, j)) × (kind i ≡ k.SignalAssign → ⊥) × (kind i ≡ k.LeftParen → ⊥)
unfolding port_map associations left
port_map_again [] i j h e =
    let z = none_read h in
    (rw (z, eat_not k.Port j (other e (λ w. absurd cc))) refl, rw z (other e (λ w. absurd cc)), rw z (other e (λ w. absurd cc)))
port_map_again (y ∷ xs) i j h e =
    let s = split h in
    let t = split s.back in
    let u = split t.back in
    let v = split u.back in
    let w = split v.back in
    let front = (mark_read i s.mid k.Port s.front).0 in
    let both : Fits 64 64 (of_open false (y ∷ xs)) u.mid w.mid = v.front & w.front in (
      rw (
        eat_read k.Port i s.mid s.front,
        expect_read k.Map s.mid t.mid t.front,
        expect_read k.LeftParen t.mid u.mid u.front,
        associations_again
            (length u.mid) false [] (y ∷ xs) u.mid w.mid both (omega arith) (mark_read w.mid j k.RightParen w.back).0,
        expect_read k.RightParen w.mid j
            w.back,
      ) refl,
      other front (λ z. absurd cc),
      other front (λ z. absurd cc),
    )

instance_again : (label : Name) (unit : Instantiated) (xs : List Association) (i j : Input) → Fits 64 64 (of_port_map xs ▸ mark k.Semicolon) i j
    → (instance label unit i ≡ Ok (c.Instance (record { label = label; unit = unit; associations = xs }), j)) × (kind i ≡ k.SignalAssign → ⊥) ×
    (kind i ≡ k.LeftParen → ⊥)
unfolding instance
instance_again label unit xs i j h =
    let s = split h in
    let p = port_map_again xs i s.mid s.front (mark_read s.mid j k.Semicolon s.back).0 in
    (rw (p.0, expect_read k.Semicolon s.mid j s.back) refl, p.1, p.2)

chosen_again : (o : Option Name) (i j : Input) → Fits 64 64 (of_chosen o) i j → (kind j ≡ k.LeftParen → ⊥) → chosen i ≡ Ok (o, j)
unfolding chosen
chosen_again None i j h stop = rw (none_read h, eat_not k.LeftParen j stop) refl
chosen_again (Some w) i j h stop =
    let s = split h in
    let t = split s.back in
    rw (eat_read k.LeftParen i s.mid s.front, word_read s.mid t.mid w t.front, expect_read k.RightParen t.mid j t.back) refl

target_stops : (label w : Name) (i : Input) (y : Kind) → (y ≡ k.SignalAssign → ⊥) → target_by label w y i ≡ instance label (made.Component false w) i
target_stops label w i k.SignalAssign stop = absurd (stop refl)
target_stops label w i _ stop = refl

-- an instance, after its label
unit_again : (label : Name) (unit : Instantiated) (xs : List Association) (i j : Input)
    → Fits 64 64 (of_instantiated unit ▸ of_port_map xs ▸ mark k.Semicolon) i j
    → labelled label i ≡ Ok (c.Instance (record { label = label; unit = unit; associations = xs }), j)
unfolding labelled entity_named
unit_again label (made.Component true w) xs i j h =
    let s = split h in
    let t = split s.front in
    let m = mark_read i t.mid k.Component t.front in
    rw (m.0, m.1, word_read t.mid s.mid w t.back) (instance_again label (made.Component true w) xs s.mid j s.back).0
unit_again label (made.Component false w) xs i j h =
    let s = split h in
    let t = split s.front in
    let v = only (none_read t.front) t.back in
    let z = instance_again label (made.Component false w) xs s.mid j s.back in
    rw (word_kind i s.mid w v, word_read i s.mid w v, target_stops label w s.mid (kind s.mid) z.1) z.0
unit_again label (made.Entity l e a) xs i j h =
    let s = split h in
    let t = split s.front in
    let u = split t.back in
    let v = split u.back in
    let w = split v.back in
    let m = mark_read i t.mid k.Entity t.front in
    let z = instance_again label (made.Entity l e a) xs s.mid j s.back in
    rw (
      m.0,
      m.1,
      word_read t.mid u.mid l u.front,
      expect_read k.Dot u.mid v.mid v.front,
      word_read v.mid w.mid e w.front,
      chosen_again a w.mid s.mid
          w.back z.2,
    ) z.0

-- ---- statements

-- facts about a statement, and that it is read
abbrev Again : Concurrent → Input → Input → Type 0
Again y i j = (begins_concurrent (kind i) ≡ true) × (suc (length j) ≤ length i) × (concurrent i ≡ Ok (y, j))

first_stops : (w : Name) (i m : Input) → Fits 64 64 (mark k.Colon) i m → first_by w (kind i) i ≡ labelled w m
first_stops w i m h = let r = mark_read i m k.Colon h in rw (r.0, expect_read k.Colon i m h) refl

-- a process from `postponed`
postponed_process : (l : Option Name) (i m : Input) → Fits 64 64 (mark k.Postponed) i m → kind m ≡ k.Process → postponed l i ≡ concurrent_process l true m
unfolding postponed
postponed_process l i m h e = let r = mark_read i m k.Postponed h in rw (r.1, e) refl

postponed_assignment : (l : Option Name) (t : Name) (i m j : Input) → Fits 64 64 (mark k.Postponed) i m → Fits 64 64 (word_at t) m j
    → postponed l i ≡ concurrent_assigned l true t j
unfolding postponed
postponed_assignment l t i m j h w =
    let r = mark_read i m k.Postponed h in
    rw (r.1, word_kind m j t w, word_read m j t w) refl

-- an assignment, after its label, `postponed` and its target
assigned_all : (a : ConcurrentSignalAssignment) (i j : Input)
    → Fits 64 64 (mark k.SignalAssign ▸ g.of_delay a.delay ▸ g.of_waveforms a.waveforms ▸ mark k.Semicolon) i j
    → concurrent_assigned a.label a.postponed a.target i ≡ Ok (c.Assignment a, j)
unfolding concurrent_assigned
assigned_all a i j h = rw (waves.assigned_again {n = 64} a i j h) refl

assignment_again : (l : Option Name) (postponed : Bool) (t : Name) (d : DelayMechanism) (w : ConditionalWaveforms) (i j : Input)
    → Fits 64 64 (of_concurrent_assignment (record { label = l; postponed = postponed; target = t; delay = d; waveforms = w })) i j
    → Again (c.Assignment (record { label = l; postponed = postponed; target = t; delay = d; waveforms = w })) i j
unfolding of_concurrent_assignment concurrent labelled
assignment_again None false t d w i j h =
    let s = split h in
    let v = only (none_read s.front) s.back in
    let o = split v in
    let v₁ = only (none_read o.front) o.back in
    let u = split v₁ in
    let m = (mark_read u.mid (split u.back).mid k.SignalAssign (split u.back).front).0 in
    let e = word_kind i u.mid t u.front in (
      rw e refl,
      less (WordAt t.text t.at) _ i j v₁,
      rw (e, word_read i u.mid t u.front, m)
          (assigned_all (record { label = None; postponed = false; target = t; delay = d; waveforms = w }) u.mid j u.back),
    )
assignment_again None true t d w i j h =
    let s = split h in
    let v = only (none_read s.front) s.back in
    let o = split v in
    let u = split o.back in
    let e = (mark_read i o.mid k.Postponed o.front).0 in (
      rw e refl,
      less (Mark k.Postponed) _ i j v,
      rw (e, postponed_assignment None t i o.mid u.mid o.front u.front)
          (assigned_all (record { label = None; postponed = true; target = t; delay = d; waveforms = w }) u.mid j u.back),
    )
assignment_again (Some l) false t d w i j h =
    let s = split h in
    let r = split s.front in
    let o = split s.back in
    let v₁ = only (none_read o.front) o.back in
    let u = split v₁ in
    let m = (mark_read u.mid (split u.back).mid k.SignalAssign (split u.back).front).0 in
    let e = word_kind i r.mid l r.front in (
      rw e refl,
      less_then i j s (less (WordAt l.text l.at) _ i s.mid s.front),
      rw (
        e,
        word_read i r.mid l r.front,
        first_stops l r.mid s.mid r.back,
        word_kind s.mid u.mid t u.front,
        word_read s.mid u.mid t u.front,
        m,
      ) (assigned_all (record { label = Some l; postponed = false; target = t; delay = d; waveforms = w }) u.mid j u.back),
    )
assignment_again (Some l) true t d w i j h =
    let s = split h in
    let r = split s.front in
    let o = split s.back in
    let u = split o.back in
    let m = (mark_read s.mid o.mid k.Postponed o.front).0 in
    let e = word_kind i r.mid l r.front in (
      rw e refl,
      less_then i j s (less (WordAt l.text l.at) _ i s.mid s.front),
      rw (
        e,
        word_read i r.mid l r.front,
        first_stops l r.mid s.mid r.back,
        m,
        postponed_assignment (Some l) t s.mid o.mid u.mid o.front u.front,
      ) (assigned_all (record { label = Some l; postponed = true; target = t; delay = d; waveforms = w }) u.mid j u.back),
    )

-- a process, after its label and `postponed`
processed_all : (p : Process) (i j : Input) → process p.label p.postponed i ≡ Ok (p, j) → concurrent_process p.label p.postponed i ≡ Ok (c.Process p, j)
unfolding concurrent_process
processed_all p i j e = rw e refl

abbrev process_of : Option Name → Bool → Sensitivity → Bool → List ObjectDeclaration → List Sequential → Bool → Bool → Process
process_of l postponed y is vs ss word_again again = record {
  label = l;
  postponed = postponed;
  sensitivity = y;
  is = is;
  variables = vs;
  statements = ss;
  postponed_repeated = word_again;
  label_repeated = again;
}

process_all : (l : Option Name) (postponed : Bool) (y : Sensitivity) (is : Bool) (vs : List ObjectDeclaration) (ss : List Sequential)
    (word_again again : Bool) (i j : Input)
    → Fits 64 64 (of_process (process_of l postponed y is vs ss word_again again)) i j
    → Again (c.Process (process_of l postponed y is vs ss word_again again)) i j
unfolding of_process concurrent labelled
process_all None false y is vs ss word_again again i j h =
    let s = split h in
    let v = only (none_read s.front) s.back in
    let o = split v in
    let v₁ = only (none_read o.front) o.back in
    let p = process_of None false y is vs ss word_again again in
    let m = (mark_read i (split v₁).mid k.Process (split v₁).front).0 in (
      rw m refl,
      less (Mark k.Process) _ i j v₁,
      rw m (processed_all p i j (process_again p i j v₁)),
    )
process_all None true y is vs ss word_again again i j h =
    let s = split h in
    let v = only (none_read s.front) s.back in
    let o = split v in
    let p = process_of None true y is vs ss word_again again in
    let e = (mark_read i o.mid k.Postponed o.front).0 in
    let m = (mark_read o.mid (split o.back).mid k.Process (split o.back).front).0 in (
      rw e refl,
      less (Mark k.Postponed) _ i j v,
      rw (e, postponed_process None i o.mid o.front m) (processed_all p o.mid j (process_again p o.mid j o.back)),
    )
process_all (Some l) false y is vs ss word_again again i j h =
    let s = split h in
    let r = split s.front in
    let o = split s.back in
    let v₁ = only (none_read o.front) o.back in
    let p = process_of (Some l) false y is vs ss word_again again in
    let m = (mark_read s.mid (split v₁).mid k.Process (split v₁).front).0 in
    let e = word_kind i r.mid l r.front in (
      rw e refl,
      less_then i j s (less (WordAt l.text l.at) _ i s.mid s.front),
      rw (
        e,
        word_read i r.mid l r.front,
        first_stops l r.mid s.mid r.back,
        m,
      ) (processed_all p s.mid j (process_again p s.mid j v₁)),
    )
process_all (Some l) true y is vs ss word_again again i j h =
    let s = split h in
    let r = split s.front in
    let o = split s.back in
    let p = process_of (Some l) true y is vs ss word_again again in
    let n = (mark_read s.mid o.mid k.Postponed o.front).0 in
    let m = (mark_read o.mid (split o.back).mid k.Process (split o.back).front).0 in
    let e = word_kind i r.mid l r.front in (
      rw e refl,
      less_then i j s (less (WordAt l.text l.at) _ i s.mid s.front),
      rw (
        e,
        word_read i r.mid l r.front,
        first_stops l r.mid s.mid r.back,
        n,
        postponed_process (Some l) s.mid o.mid o.front m,
      ) (processed_all p o.mid j (process_again p o.mid j o.back)),
    )

instance_all : (y : Instance) (i j : Input) → Fits 64 64 (of_instance y) i j → Again (c.Instance y) i j
unfolding of_instance concurrent
instance_all y i j h =
    let s = split h in
    let t = split s.back in
    let e = word_kind i s.mid y.label s.front in (
      rw e refl,
      less (WordAt y.label.text y.label.at) _ i j h,
      rw (e, word_read i s.mid y.label s.front, first_stops y.label s.mid t.mid t.front)
          (unit_again y.label y.unit y.associations t.mid j t.back),
    )

concurrent_again : (y : Concurrent) (i j : Input) → Fits 64 64 (of_concurrent y) i j → Again y i j
unfolding of_concurrent
concurrent_again (c.Assignment a) i j h = assignment_again a.label a.postponed a.target a.delay a.waveforms i j h
concurrent_again (c.Process p) i j h =
    process_all p.label p.postponed p.sensitivity p.is p.variables p.statements p.postponed_repeated p.label_repeated i j h
concurrent_again (c.Instance y) i j h = instance_all y i j h

pub concurrents_again : (xs : List Concurrent) (i j : Input) → Fits 64 64 (all_of (map of_concurrent xs)) i j → begins_concurrent (kind j) ≡ false
    → concurrents i ≡ Ok (xs, j)
unfolding concurrents
concurrents_again xs i j h stop = many_all_again 64 64 begins_concurrent concurrent of_concurrent (λ y. Unit {0})
    (λ y a b f. (concurrent_again y a b f).0) (λ y e. tt) (λ y a b f. (concurrent_again y a b f).1) (λ y a b f d. (concurrent_again y a b f).2) xs i j
    h tt stop
