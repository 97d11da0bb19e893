use Rattle.std.proofs.Common.{◌≡◌, ◌+◌, ◌++◌, List, ℕ, length, take, ap, ◌∙◌, arith, rules}
use Rattle.std.proofs.lemmas.Slice.{take-put_mid}
use Rattle.sim_run_listing.proofs.ShortNames.{appended}
use Rattle.sim_run_listing.proofs.short_name.ShortName.append.Goals as goal

pub returns : goal.returns
returns c =
    let bytes = c.self.inside.bytes in
    let piece = c.args.piece.now in
    let len = c.in-Some.len in
    let same : length c.copy_from_slice.new.self ≡ length piece = ap length c.copy_from_slice.ensures.after in
    let copied = take-put_mid len _ bytes c.copy_from_slice.new.self (len + length piece) (omega arith) (omega (arith, c.in-Some.ensures.fits)) ∙
    ap (λ (l : List ℕ). take len bytes ++ l) c.copy_from_slice.ensures.after in
    appended bytes piece _ c.args.self.now len c.self.told (search rules) c.self.view_is c.in-Some.ensures.value (omega (arith, c.in-Some.ensures.fits)) copied
