use Rattle.std.proofs.Common.{◌≡◌, ◌+◌, ◌++◌, ◌∷◌, [], List, ℕ, take, set, decimal, sym, ap, ◌∙◌, arith}
use Rattle.std.proofs.lemmas.Fmt.{decimal_digit}
use Rattle.sim_run_listing.proofs.Copies.{two_more}
use Rattle.sim_run_listing.proofs.Heads.{start_is}
use Rattle.sim_run_listing.proofs.head.Head.set_short_delta.Goals as goal

pub returns : goal.returns
returns c =
    let bytes = c.self.inside.bytes in
    let delta = c.args.delta in
    let time : c.self.inside.time ≡ c.args.self.now.time = ap (λ s. s.time) c.self.view_is in
    let digit : (48 + delta) ∷ 32 ∷ [] ≡ decimal delta ++ 32 ∷ [] = ap (λ (l : List ℕ). l ++ 32 ∷ []) (sym (decimal_digit delta c.requires)) in
    let written : take 23 (set (set bytes 21 (48 + delta)) 22 32) ≡ take 21 bytes ++ (decimal delta ++ 32 ∷ []) =
    two_more 21 (48 + delta) 32 bytes (omega arith) ∙ ap (λ (l : List ℕ). take 21 bytes ++ l) digit in
    rw (← time) (start_is c.self.inside.start 23 c.self.inside.time delta bytes _ c.self.invariant.0 c.self.told c.self.invariant.3 written)
