use Rattle.std.proofs.Common.{◌≡◌, ℕ, List, get_or, ap, ◌∙◌}
use Rattle.sim_flat_expansion.specs.Counts.{sum, table_at}
use Rattle.sim_flat_expansion.proofs.Totals.{count_is}
use Rattle.sim_flat_expansion.proofs.counts.count.Goals as goal

pub returns : goal.returns
returns c =
    let n : c.net_at-number.result ≡ get_or (table_at c.args.kind c.args.blocks.now 32) c.args.top 0 =
    c.net_at-number.ensures ∙ ap (λ (xs : List ℕ). get_or xs c.args.top 0) (c.as_slice.ensures ∙ c.in_ok-table.ensures) in
    c.sum.ensures
    ∙ (ap (sum c.net_at-number.result) c.top_added.ensures
    ∙ count_is c.args.kind c.args.blocks.now c.args.top c.requires.known c.requires.top c.index-blocks-top.result c.index-blocks-top.is
    c.net_at-number.result n)
