use Rattle.std.proofs.Common.{◌∙◌, ap, length, map, arith}
use Rattle.flow_page.specs.Objects.{cause_count, causes, listed_edges}
use Rattle.flow_page.proofs.view.page.edges_of.Goals as goal

pub returns : goal.returns
returns c =
    let all = c.in_ok-all.ensures in
    let long = ap length all in
    record {
      count_is = omega (arith, c.len-count.ensures, long);
      counts_are = c.in_ok-causes.ensures ∙ ap (λ es. map (cause_count es) causes) (c.deref.ensures.value ∙ all);
      listed_are = c.in_ok-listed.ensures ∙ ap listed_edges all;
    }
