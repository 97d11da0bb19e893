-- Soundness for declarations: the tokens that a reader consumes spell its result. For each reader a lemma says that it `Gives` its spelling. The proof
-- follows the steps of the reader with `then_` and joins the spellings of the parts with `◌&◌`; lists by induction on the remaining tokens.
use Rattle.std.proofs.Common.{◌≡◌, ℕ, Bool, true, List, [], ◌∷◌, map, refl}
use Rattle.sim_text_tokens.specs.declared.kind.Kind.{Kind}
use Rattle.sim_text_tokens.specs.declared.kind.Kind.TheVariants as k
use Rattle.sim_text_tree.specs.Name.{Name}
use Rattle.sim_text_tree.specs.declared.declaration.PortDeclaration.{PortDeclaration}
use Rattle.sim_text_tree.specs.Input.{Input, kind, next}
use Rattle.sim_text_grammar.specs.Readers.{◌>>◌, take_token, word, same_kind}
use Rattle.sim_text_tree.specs.Writing.{This, just, mark, all_of, separated_by, if_written, word_at, Fits}
use Rattle.sim_text_tree.specs.Grammar.{of_names, of_initial, of_mode, of_port, of_ports, of_object, of_variable, of_component, of_declaration}
use Rattle.sim_text_tree.proofs.Writings.{◌&◌, none, never_fits, marks}
use Rattle.sim_text_grammar.proofs.Gives.{Gives, then_, map_, done}
use Rattle.sim_text_grammar.proofs.Tokens.{same_is, word_gives, literal_gives, repeat_gives, eat_gives, eat_then, sees_then, eaten_written, expect_gives}
use Rattle.sim_text_grammar.proofs.Lists.{separated_gives, many_all_gives}
use Rattle.sim_text_grammar.specs.Declarations.{names, repeated, initial, initial_by, mode, mode_by, port_of, port, port_list, ports, object, variables}
use Rattle.sim_text_grammar.specs.Declarations.{component_end, component, begins_declaration, declaration, declaration_by, declarations}

module _ {p n : ℕ} where
  pub names_give : (i : Input) → Gives (λ ns j. Fits p n (of_names ns) i j) (names i)
  unfolding names of_names
  names_give i = separated_gives p n k.Comma word word_at (λ z. absurd cc) (λ j. word_gives {p = p} {n = n} j) i

  pub repeated_gives : (text : List ℕ) (i : Input) → Gives (λ b j. Fits p n (if_written b (just (This text))) i j) (repeated text i)
  unfolding repeated
  repeated_gives text i = sees_then k.Word i (λ e. then_ (repeat_gives {p = p} {n = n} text i) (λ u j h. done h)) (λ e. done none)

  initial_by_gives : (i j : Input) → Fits p n (mark k.VariableAssign) i j → (x : Kind) → kind j ≡ x
      → Gives (λ o m. Fits p n (of_initial o) i m) (initial_by x j)
  initial_by_gives i j y k.Literal e = then_ (literal_gives {p = p} {n = n} j) (λ v m h. done (y & h))
  initial_by_gives i j y _ e = then_ (word_gives {p = p} {n = n} j) (λ v m h. done (y & h))

  pub initial_gives : (i : Input) → Gives (λ o m. Fits p n (of_initial o) i m) (initial i)
  unfolding initial
  initial_gives i = eat_then _ _ p n k.VariableAssign i (λ z. absurd cc) (λ y. initial_by_gives i (next i) y (kind (next i)) refl) (λ y. done none)

  mode_by_gives : (i : Input) (x : Kind) → kind i ≡ x → Gives (λ o m. Fits p n (of_mode o) i m) (mode_by x i)
  mode_by_gives i k.In e = done (marks i k.In e (λ z. absurd cc))
  mode_by_gives i k.Out e = done (marks i k.Out e (λ z. absurd cc))
  mode_by_gives i k.Inout e = done (marks i k.Inout e (λ z. absurd cc))
  mode_by_gives i _ e = done none

  mode_gives : (i : Input) → Gives (λ o m. Fits p n (of_mode o) i m) (mode i)
  unfolding mode
  mode_gives i = mode_by_gives i (kind i) refl

  port_of_gives : (b : Bool) (ns : List Name) (i j m : Input) → Fits p n (if_written b (mark k.Signal)) i j → Fits p n (of_names ns) j m
      → Gives (λ x q. Fits p n (of_port x) i q) (port_of b ns m)
  unfolding port_of of_port
  port_of_gives b ns i j m x y =
      then_ (expect_gives {p = p} {n = n} k.Colon m (λ z. absurd cc)) (λ u q c.
      then_ (mode_gives q) (λ o r d.
      then_ (word_gives {p = p} {n = n} r) (λ w s e.
      then_ (initial_gives s) (λ f t g.
      done (x & y & c & d & e & g)))))

  pub port_gives : (i : Input) → Gives (λ x q. Fits p n (of_port x) i q) (port i)
  unfolding port
  port_gives i =
      then_ (eat_gives {p = p} {n = n} k.Signal i (λ z. absurd cc)) (λ b j x.
      then_ (names_give j) (λ ns m y.
      port_of_gives b ns i j m (eaten_written k.Signal i j b x) y))

  pub port_list_gives : (i : Input) → Gives (λ xs q. Fits p n (separated_by k.Semicolon (map of_port xs)) i q) (port_list i)
  unfolding port_list
  port_list_gives i = separated_gives p n k.Semicolon port of_port (λ z. absurd cc) (λ j. port_gives j) i

  ports_fit : (xs : List PortDeclaration) (i j m q r s : Input) → Fits p n (mark k.Port) i j → Fits p n (mark k.LeftParen) j m
      → Fits p n (separated_by k.Semicolon (map of_port xs)) m q → Fits p n (mark k.RightParen) q r → Fits p n (mark k.Semicolon) r s
      → Fits p n (of_ports xs) i s
  ports_fit [] i j m q r s a b c d e = absurd (never_fits m q c)
  ports_fit (x ∷ xs) i j m q r s a b c d e = a & b & c & d & e

  pub ports_give : (i : Input) → Gives (λ xs q. Fits p n (of_ports xs) i q) (ports i)
  unfolding ports
  ports_give i = eat_then _ _ p n k.Port i (λ z. absurd cc) (λ a.
      then_ (expect_gives {p = p} {n = n} k.LeftParen (next i) (λ z. absurd cc)) (λ u m b.
      then_ (port_list_gives m) (λ xs q c.
      then_ (expect_gives {p = p} {n = n} k.RightParen q (λ z. absurd cc)) (λ v r d.
      then_ (expect_gives {p = p} {n = n} k.Semicolon r (λ z. absurd cc)) (λ w s e.
      done (ports_fit xs i (next i) m q r s a b c d e))))))
      (λ a. done none)

  pub object_gives : (i : Input) → Gives (λ x q. Fits p n (of_object x) i q) (object i)
  unfolding object of_object
  object_gives i =
      then_ (names_give i) (λ ns j a.
      then_ (expect_gives {p = p} {n = n} k.Colon j (λ z. absurd cc)) (λ u m b.
      then_ (word_gives {p = p} {n = n} m) (λ w q c.
      then_ (initial_gives q) (λ f r d.
      then_ (expect_gives {p = p} {n = n} k.Semicolon r (λ z. absurd cc)) (λ v s e.
      done (a & b & c & d & e))))))

  variable_gives : (i : Input) → same_kind (kind i) k.Variable ≡ true → Gives (λ x q. Fits p n (of_variable x) i q) ((take_token >> object) i)
  unfolding of_variable
  variable_gives i e = map_ (object_gives (next i)) (λ x q h. marks i k.Variable (same_is (kind i) k.Variable e) (λ z. absurd cc) & h)

  pub variables_give : (i : Input) → Gives (λ xs q. Fits p n (all_of (map of_variable xs)) i q) (variables i)
  unfolding variables
  variables_give i = many_all_gives p n (λ y. same_kind y k.Variable) (take_token >> object) of_variable (λ j e. variable_gives j e) i

  component_end_gives : (x : Name) (is : Bool) (xs : List PortDeclaration) (i a b c d : Input) → Fits p n (mark k.Component) i a
      → Fits p n (word_at x) a b → Fits p n (if_written is (mark k.Is)) b c → Fits p n (of_ports xs) c d
      → Gives (λ y q. Fits p n (of_component y) i q) (component_end x is xs d)
  unfolding component_end of_component
  component_end_gives x is xs i a b c d e f g h =
      then_ (expect_gives {p = p} {n = n} k.End d (λ z. absurd cc)) (λ u j l.
      then_ (expect_gives {p = p} {n = n} k.Component j (λ z. absurd cc)) (λ v m o.
      then_ (repeated_gives x.text m) (λ w q r.
      then_ (expect_gives {p = p} {n = n} k.Semicolon q (λ z. absurd cc)) (λ y s t.
      done (e & f & g & h & l & o & r & t)))))

  pub component_gives : (i : Input) → Gives (λ y q. Fits p n (of_component y) i q) (component i)
  unfolding component
  component_gives i =
      then_ (expect_gives {p = p} {n = n} k.Component i (λ z. absurd cc)) (λ u a e.
      then_ (word_gives {p = p} {n = n} a) (λ x b f.
      then_ (eat_gives {p = p} {n = n} k.Is b (λ z. absurd cc)) (λ is c g.
      then_ (ports_give c) (λ xs d h.
      component_end_gives x is xs i a b c d e f (eaten_written k.Is b c is g) h))))

  declaration_by_gives : (i : Input) (x : Kind) → kind i ≡ x → Gives (λ y q. Fits p n (of_declaration y) i q) (declaration_by x i)
  unfolding of_declaration
  declaration_by_gives i k.Signal e = then_ (object_gives (next i)) (λ x q h. done (marks i k.Signal e (λ z. absurd cc) & h))
  declaration_by_gives i _ e = then_ (component_gives i) (λ x q h. done h)

  pub declaration_gives : (i : Input) → Gives (λ y q. Fits p n (of_declaration y) i q) (declaration i)
  unfolding declaration
  declaration_gives i = declaration_by_gives i (kind i) refl

  pub declarations_give : (i : Input) → Gives (λ xs q. Fits p n (all_of (map of_declaration xs)) i q) (declarations i)
  unfolding declarations
  declarations_give i = many_all_gives p n begins_declaration declaration of_declaration (λ j e. declaration_gives j) i
