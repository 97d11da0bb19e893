-- Setting a link changes it at its position only, and the number of ports with a net of their own accordingly.
use Rattle.std.proofs.Common.{◌≡◌, ◌≢◌, ℕ, zero, suc, ◌+◌, ◌-◌, ◌==◌, ◌<◌, ◌≤◌, List, [], ◌∷◌, Bool, Option, Some, cond, length}
use Rattle.std.proofs.Common.{get_or, slice_get, set, replicate, refl, ap, sym, ◌∙◌, arith, eqb-true}
use Rattle.std.proofs.lemmas.Bool.Decides.{nat_tests}
use Rattle.std.proofs.lemmas.List.{get_or_past, length-set}
use Rattle.std.proofs.lemmas.Option.{slice_get_past}
use Rattle.std.proofs.lemmas.List.FromFn.{get_or-map-range_with_len, length-map-range_with_len}
use Rattle.std.specs.Map.{lookup}
use Rattle.sim_text_tokens.proofs.Tests.{by_cases}
use Rattle.sim_flat_blocks.specs.declared.links.Link.{Link}
use Rattle.sim_flat_blocks.specs.declared.links.Link.TheVariants.{To, Constant, Open}
use Rattle.sim_flat_blocks.proofs.ByPlace.{put_at, all_same}
use Rattle.sim_flat_blocks.specs.Links.{or_open, kept, link_in, at, by_place, own, unlinked}

-- ---- no links

all_open : (k n : ℕ) → at (replicate k Open) [] n ≡ Open
all_open zero n = refl
all_open (suc k) zero = refl
all_open (suc k) (suc n) = all_open k n

pub none_kept : (k ports : ℕ) → by_place (replicate k Open) [] ports ≡ replicate ports Open
unfolding by_place
none_kept k ports = all_same (at (replicate k Open) []) Open (all_open k) 0 ports

pub open_unlinked : (n : ℕ) → unlinked (replicate n Open) ≡ n
unfolding unlinked
open_unlinked zero = refl
open_unlinked (suc n) = let rest = open_unlinked n in omega arith

-- ---- the link at a position

pub as_many : (first : List Link) (others : List (ℕ × Link)) (ports : ℕ) → length (by_place first others ports) ≡ ports
unfolding by_place
as_many first others ports = length-map-range_with_len (at first others) 0 ports

pub at_place : (first : List Link) (others : List (ℕ × Link)) (ports n : ℕ) → n < ports → get_or (by_place first others ports) n Open ≡ at first others n
unfolding by_place
at_place first others ports n lt = get_or-map-range_with_len (at first others) 0 ports n n Open lt (omega arith)

pub past_places : (first : List Link) (others : List (ℕ × Link)) (ports n : ℕ) → ports ≤ n → get_or (by_place first others ports) n Open ≡ Open
past_places first others ports n le =
    let e = as_many first others ports in get_or_past (by_place first others ports) n Open (omega arith)

-- ---- one more link

listed_same : (xs : List Link) (n : ℕ) (l : Link) → n < length xs → slice_get (set xs n l) n ≡ Some l
listed_same [] n l lt = absurd (omega arith)
listed_same (x ∷ xs) zero l lt = refl
listed_same (x ∷ xs) (suc n) l lt = listed_same xs n l (omega arith)

listed_other : (xs : List Link) (p n : ℕ) (l : Link) → p ≢ n → slice_get (set xs p l) n ≡ slice_get xs n
listed_other [] p n l apart = refl
listed_other (x ∷ xs) zero zero l apart = absurd (apart refl)
listed_other (x ∷ xs) zero (suc n) l apart = refl
listed_other (x ∷ xs) (suc p) zero l apart = refl
listed_other (x ∷ xs) (suc p) (suc n) l apart = listed_other xs p n l (λ e. apart (ap suc e))

-- a link in the list
pub put_listed : (first : List Link) (others : List (ℕ × Link)) (ports place : ℕ) (l : Link) → place < length first
    → set (by_place first others ports) place l ≡ by_place (set first place l) others ports
unfolding by_place
put_listed first others ports place l lt =
    put_at (at first others) (at (set first place l) others) ports place l Open
    (λ n. by_cases (place == n)
    (λ t. let same : place ≡ n = eqb-true place n t in
    ap (λ (o : Option Link). link_in o (kept others n))
    (ap (slice_get (set first place l)) (sym same) ∙ listed_same first place l lt)
    ∙ ap (λ (b : Bool). cond b l (at first others n)) (sym t))
    (λ f. ap (λ (o : Option Link). link_in o (kept others n)) (listed_other first place n l (λ e. grind (arith, nat_tests)))
    ∙ ap (λ (b : Bool). cond b l (at first others n)) (sym f)))

past_list : (first : List Link) (others more : List (ℕ × Link)) (place n : ℕ) (l : Link) → length first ≤ place
    → lookup (λ (k : ℕ). n == k) more ≡ cond (place == n) (Some l) (lookup (λ (k : ℕ). n == k) others)
    → at first more n ≡ cond (place == n) l (at first others n)
past_list first others more place n l past made = by_cases (place == n)
    (λ t. let same : place ≡ n = eqb-true place n t in
    ap (λ (o : Option Link). link_in o (kept more n)) (slice_get_past first n (omega arith))
    ∙ (ap or_open (made ∙ ap (λ (b : Bool). cond b (Some l) (lookup (λ (k : ℕ). n == k) others)) t)
    ∙ ap (λ (b : Bool). cond b l (at first others n)) (sym t)))
    (λ f. ap (λ (o : Option Link). link_in (slice_get first n) (or_open o))
    (made ∙ ap (λ (b : Bool). cond b (Some l) (lookup (λ (k : ℕ). n == k) others)) f)
    ∙ ap (λ (b : Bool). cond b l (at first others n)) (sym f))

-- a link among the others
pub put_kept : (first : List Link) (others more : List (ℕ × Link)) (ports place : ℕ) (l : Link) → length first ≤ place
    → ((n : ℕ) → lookup (λ (k : ℕ). n == k) more ≡ cond (place == n) (Some l) (lookup (λ (k : ℕ). n == k) others))
    → set (by_place first others ports) place l ≡ by_place first more ports
unfolding by_place
put_kept first others more ports place l past made =
    put_at (at first others) (at first more) ports place l Open (λ n. past_list first others more place n l past (made n))

-- ---- how many have a net of their own

pub own_counted : (ls : List Link) (n : ℕ) → n < length ls → own (get_or ls n Open) ≤ unlinked ls
unfolding unlinked
own_counted [] n lt = absurd (omega arith)
own_counted (l ∷ ls) zero lt = omega arith
own_counted (l ∷ ls) (suc n) lt = let rest = own_counted ls n (omega arith) in omega arith

own_once : (l : Link) → own l ≤ 1
own_once (To m) = omega arith
own_once (Constant value) = omega arith
own_once Open = omega arith

pub no_more_than_ports : (ls : List Link) → unlinked ls ≤ length ls
unfolding unlinked
no_more_than_ports [] = omega arith
no_more_than_ports (l ∷ ls) = let rest = no_more_than_ports ls in let one = own_once l in omega arith

pub recounted : (ls : List Link) (n : ℕ) (l : Link) → n < length ls → unlinked (set ls n l) + own (get_or ls n Open) ≡ unlinked ls + own l
unfolding unlinked
recounted [] n l lt = absurd (omega arith)
recounted (x ∷ ls) zero l lt = omega arith
recounted (x ∷ ls) (suc n) l lt = let rest = recounted ls n l (omega arith) in omega arith

pub record Put (ports count was is : ℕ) (after : List Link) : Type 0 where
  pub fits : count - was + is ≤ ports
  pub same : count - was + is ≡ unlinked after

pub put_counts : (ls : List Link) (ports place count was is : ℕ) (before l : Link) → length ls ≡ ports → count ≡ unlinked ls → place < ports
    → before ≡ get_or ls place Open → was ≡ own before → is ≡ own l → Put ports count was is (set ls place l)
put_counts ls ports place count was is before l many counts lt at of_before of_link =
    let known : was ≡ own (get_or ls place Open) = of_before ∙ ap own at in
    let some = own_counted ls place (omega arith) in
    let after = recounted ls place l (omega arith) in
    let most = no_more_than_ports (set ls place l) in
    let longer = length-set ls place l in
    record { fits = omega arith; same = omega arith }
