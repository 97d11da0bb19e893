-- Completeness for declarations: reading the tokens that spell one returns it. `split` takes the spelling apart, which gives the tokens that the reader
-- sees at each step, and so its answer; lists by induction on the remaining tokens. A token after a list or an optional part must not continue it, so
-- lemmas require this of the next token.
use Rattle.std.proofs.Common.{◌≡◌, ℕ, suc, ◌≤◌, Bool, true, false, List, [], ◌∷◌, length, map, Option, Some, None, Ok, refl, sym, subst}
use Rattle.sim_text_tokens.specs.declared.kind.Kind.{Kind}
use Rattle.sim_text_tokens.specs.declared.kind.Kind.TheVariants as k
use Rattle.sim_text_tree.specs.Name.{Name}
use Rattle.sim_text_tree.specs.declared.declaration.Initial.{Initial}
use Rattle.sim_text_tree.specs.declared.declaration.Initial.TheVariants as first_values
use Rattle.sim_text_tree.specs.declared.declaration.Mode.{Mode}
use Rattle.sim_text_tree.specs.declared.declaration.Mode.TheVariants as modes
use Rattle.sim_text_tree.specs.declared.declaration.PortDeclaration.{PortDeclaration}
use Rattle.sim_text_tree.specs.declared.declaration.ObjectDeclaration.{ObjectDeclaration}
use Rattle.sim_text_tree.specs.declared.declaration.ComponentDeclaration.{ComponentDeclaration}
use Rattle.sim_text_tree.specs.declared.declaration.Declaration.{Declaration}
use Rattle.sim_text_tree.specs.declared.declaration.Declaration.TheVariants as declared
use Rattle.sim_text_tree.specs.Input.{Input, kind}
use Rattle.sim_text_grammar.specs.Readers.{◌>>◌, take_token, word, same_kind}
use Rattle.sim_text_tree.specs.Writing.{Mark, This, just, all_of, separated_by, if_written, word_at, Fits}
use Rattle.sim_text_tree.specs.Grammar.{of_names, of_initial, of_mode, of_port, of_ports, of_object, of_variable, of_component, of_declaration}
use Rattle.sim_text_tree.proofs.Writings.{split, none_read, never_fits, mark_read, less}
use Rattle.sim_text_grammar.proofs.Tokens.{other, is_same, not_same, word_read, word_kind, literal_read, literal_kind, repeat_read, this_kind}
use Rattle.sim_text_grammar.proofs.Tokens.{is_seen, not_seen}
use Rattle.sim_text_grammar.proofs.Tokens.{eat_read, eat_not, expect_read, written_read}
use Rattle.sim_text_grammar.proofs.Lists.{separated_again, many_all_again}
use Rattle.sim_text_grammar.specs.Declarations.{names, repeated, initial, mode, port_of, port, port_list, ports, object, variables, component_end}
use Rattle.sim_text_grammar.specs.Declarations.{component, begins_declaration, declaration, declarations}

-- no initial value follows
abbrev NoFirst : Kind → Type 0
NoFirst x = x ≡ k.VariableAssign → ⊥

module _ {p n : ℕ} where
  pub names_begin : (ns : List Name) (i j : Input) → Fits p n (of_names ns) i j → kind i ≡ k.Word
  unfolding of_names
  names_begin [] i j h = absurd (never_fits i j h)
  names_begin (x ∷ xs) i j h = let s = split h in word_kind i s.mid x s.front

  pub names_again : (ns : List Name) (i j : Input) → Fits p n (of_names ns) i j → (kind j ≡ k.Comma → ⊥) → names i ≡ Ok (ns, j)
  unfolding names of_names
  names_again ns i j h stop = separated_again p n k.Comma word word_at (λ x. Unit {0}) tt (λ x a b f d. word_read a b x f) ns i j h tt stop

  pub repeated_again : (text : List ℕ) (b : Bool) (i j : Input) → Fits p n (if_written b (just (This text))) i j → (kind j ≡ k.Word → ⊥)
      → repeated text i ≡ Ok (b, j)
  unfolding repeated
  repeated_again text true i j h stop = rw (is_seen k.Word i (this_kind text i j h), repeat_read text i j h) refl
  repeated_again text false i j h stop = rw (none_read h, not_seen k.Word j stop) refl

  pub initial_again : (o : Option Initial) (i j : Input) → Fits p n (of_initial o) i j → (kind j ≡ k.VariableAssign → ⊥) → initial i ≡ Ok (o, j)
  unfolding initial
  initial_again None i j h stop = rw (none_read h, eat_not k.VariableAssign j stop) refl
  initial_again (Some (first_values.Literal v at)) i j h stop =
      let s = split h in
      rw (eat_read k.VariableAssign i s.mid s.front, literal_kind s.mid j v at s.back, literal_read s.mid j v at s.back) refl
  initial_again (Some (first_values.Named x)) i j h stop =
      let s = split h in
      rw (eat_read k.VariableAssign i s.mid s.front, word_kind s.mid j x s.back, word_read s.mid j x s.back) refl

  mode_again : (o : Option Mode) (i j : Input) → Fits p n (of_mode o) i j → kind j ≡ k.Word → mode i ≡ Ok (o, j)
  unfolding mode
  mode_again None i j h e = rw (none_read h, e) refl
  mode_again (Some modes.In) i j h e = let w = mark_read i j k.In h in rw (w.0, w.1) refl
  mode_again (Some modes.Out) i j h e = let w = mark_read i j k.Out h in rw (w.0, w.1) refl
  mode_again (Some modes.Inout) i j h e = let w = mark_read i j k.Inout h in rw (w.0, w.1) refl

  pub port_again : (x : PortDeclaration) (i j : Input) → Fits p n (of_port x) i j → NoFirst (kind j) → port i ≡ Ok (x, j)
  unfolding of_port port port_of
  port_again x i j h stop =
      let s = split h in
      let t = split s.back in
      let u = split t.back in
      let v = split u.back in
      let w = split v.back in
      rw (
        written_read k.Signal i s.mid x.signal s.front (other (names_begin x.names s.mid t.mid t.front) (λ z. absurd cc)),
        names_again x.names s.mid
            t.mid t.front (other (mark_read t.mid u.mid k.Colon u.front).0 (λ z. absurd cc)),
        expect_read k.Colon t.mid u.mid u.front,
        mode_again x.mode
            u.mid v.mid v.front (word_kind v.mid w.mid x.mark w.front),
        word_read v.mid w.mid x.mark w.front,
        initial_again x.initial w.mid j w.back
            stop,
      ) refl

  port_list_again : (xs : List PortDeclaration) (i j : Input) → Fits p n (separated_by k.Semicolon (map of_port xs)) i j → kind j ≡ k.RightParen
      → port_list i ≡ Ok (xs, j)
  unfolding port_list
  port_list_again xs i j h e = separated_again p n k.Semicolon port of_port NoFirst (λ z. absurd cc) (λ x a b f d. port_again x a b f d) xs i j h
      (other e (λ z. absurd cc)) (other e (λ z. absurd cc))

  pub ports_again : (xs : List PortDeclaration) (i j : Input) → Fits p n (of_ports xs) i j → (kind j ≡ k.Port → ⊥) → ports i ≡ Ok (xs, j)
  unfolding ports
  ports_again [] i j h stop = rw (none_read h, eat_not k.Port j stop) refl
  ports_again (x ∷ xs) i j h stop =
      let s = split h in
      let t = split s.back in
      let u = split t.back in
      let v = split u.back in
      rw (
        eat_read k.Port i s.mid s.front,
        expect_read k.LeftParen s.mid t.mid t.front,
        port_list_again (x ∷ xs) t.mid u.mid u.front
            (mark_read u.mid v.mid k.RightParen v.front).0,
        expect_read k.RightParen u.mid v.mid v.front,
        expect_read k.Semicolon v.mid j v.back,
      ) refl

  pub ports_lead : (P : Kind → Type 0) → P k.Port → (xs : List PortDeclaration) (i j : Input) → Fits p n (of_ports xs) i j → P (kind j) → P (kind i)
  ports_lead P f [] i j h e = subst (λ (x : Input). P (kind x)) (sym (none_read h)) e
  ports_lead P f (x ∷ xs) i j h e = let s = split h in subst P (sym (mark_read i s.mid k.Port s.front).0) f

  pub object_again : (x : ObjectDeclaration) (i j : Input) → Fits p n (of_object x) i j → object i ≡ Ok (x, j)
  unfolding object of_object
  object_again x i j h =
      let s = split h in
      let t = split s.back in
      let u = split t.back in
      let v = split u.back in
      rw (
        names_again x.names i s.mid s.front (other (mark_read s.mid t.mid k.Colon t.front).0 (λ z. absurd cc)),
        expect_read k.Colon s.mid t.mid
            t.front,
        word_read t.mid u.mid x.mark u.front,
        initial_again x.initial u.mid v.mid v.front
            (other (mark_read v.mid j k.Semicolon v.back).0 (λ z. absurd cc)),
        expect_read k.Semicolon v.mid j v.back,
      ) refl

  variable_again : (x : ObjectDeclaration) (i j : Input) → Fits p n (of_variable x) i j → (take_token >> object) i ≡ Ok (x, j)
  unfolding of_variable
  variable_again x i j h = let s = split h in rw (mark_read i s.mid k.Variable s.front).1 (object_again x s.mid j s.back)

  variable_starts : (x : ObjectDeclaration) (i j : Input) → Fits p n (of_variable x) i j → same_kind (kind i) k.Variable ≡ true
  unfolding of_variable
  variable_starts x i j h = let s = split h in is_same (kind i) k.Variable (mark_read i s.mid k.Variable s.front).0

  variable_less : (x : ObjectDeclaration) (i j : Input) → Fits p n (of_variable x) i j → suc (length j) ≤ length i
  unfolding of_variable
  variable_less x i j h = less (Mark k.Variable) (of_object x) i j h

  pub variables_again : (xs : List ObjectDeclaration) (i j : Input) → Fits p n (all_of (map of_variable xs)) i j → (kind j ≡ k.Variable → ⊥)
      → variables i ≡ Ok (xs, j)
  unfolding variables
  variables_again xs i j h stop = many_all_again p n (λ y. same_kind y k.Variable) (take_token >> object) of_variable (λ x. Unit {0}) variable_starts
      (λ x e. tt) variable_less (λ x a b f d. variable_again x a b f) xs i j h tt (not_same (kind j) k.Variable stop)

  component_again : (x : ComponentDeclaration) (i j : Input) → Fits p n (of_component x) i j
      → (kind i ≡ k.Component) × (suc (length j) ≤ length i) × (component i ≡ Ok (x, j))
  unfolding of_component component component_end
  component_again x i j h =
      let s = split h in
      let t = split s.back in
      let u = split t.back in
      let v = split u.back in
      let w = split v.back in
      let y = split w.back in
      let z = split y.back in
      let stop = (mark_read v.mid w.mid k.End w.front).0 in (
        (mark_read i s.mid k.Component s.front).0,
        less (Mark k.Component) _ i j h,
        rw (
          expect_read k.Component i s.mid s.front,
          word_read s.mid t.mid x.name t.front,
          written_read k.Is t.mid u.mid x.is u.front
              (ports_lead (λ a. a ≡ k.Is → ⊥) (λ a. absurd cc) x.ports u.mid v.mid v.front (other stop (λ a. absurd cc))),
          ports_again x.ports u.mid v.mid
              v.front (other stop (λ a. absurd cc)),
          expect_read k.End v.mid w.mid w.front,
          expect_read k.Component w.mid y.mid y.front,
          repeated_again
              x.name.text x.name_repeated y.mid z.mid z.front (other (mark_read z.mid j k.Semicolon z.back).0 (λ a. absurd cc)),
          expect_read k.Semicolon
              z.mid j z.back,
        ) refl,
      )

  declaration_again : (x : Declaration) (i j : Input) → Fits p n (of_declaration x) i j
      → (begins_declaration (kind i) ≡ true) × (suc (length j) ≤ length i) × (declaration i ≡ Ok (x, j))
  unfolding of_declaration declaration
  declaration_again (declared.Signal x) i j h =
      let s = split h in
      let w = mark_read i s.mid k.Signal s.front in
      (rw w.0 refl, less (Mark k.Signal) (of_object x) i j h, rw (w.0, w.1, object_again x s.mid j s.back) refl)
  declaration_again (declared.Component x) i j h =
      let c = component_again x i j h in
      (rw c.0 refl, c.1, rw (c.0, c.2) refl)

  pub declarations_again : (xs : List Declaration) (i j : Input) → Fits p n (all_of (map of_declaration xs)) i j → begins_declaration (kind j) ≡ false
      → declarations i ≡ Ok (xs, j)
  unfolding declarations
  declarations_again xs i j h stop = many_all_again p n begins_declaration declaration of_declaration (λ x. Unit {0})
      (λ x a b f. (declaration_again x a b f).0) (λ x e. tt) (λ x a b f. (declaration_again x a b f).1) (λ x a b f d. (declaration_again x a b f).2)
      xs i j h tt stop
