use Rattle.std.proofs.Common.{◌++◌, map, take, ap, ◌∙◌}
use Rattle.std.proofs.lemmas.Result.{err_from_is_err_and}
use Rattle.cosem_data.specs.Tree.{trees}
use Rattle.cosem_axdr.specs.Canonical.{canonical, all}
use Rattle.cosem_axdr.proofs.Parts.{Extends-trans}
use Rattle.class_profile.specs.EntriesView.{shown}
use Rattle.class_profile.proofs.Written.{lengths_at, all_more, ranges_more}
use Rattle.class_profile.proofs.entries.put_rows.Goals as goal

pub put_row-requires : goal.put_row-requires
put_row-requires c = lengths_at (shown c.args.columns) c.args.rows.now c.loop-row.row-index c.row-item.result c.loop-row-test.true c.requires c.row-item.is

pub returns-in_err-put_row-clause-err : goal.returns-in_err-put_row-clause-err
returns-in_err-put_row-clause-err c =
    let p = err_from_is_err_and c.from_residual.result c.from_residual.ensures.1 in
    rw p.1 (Extends-trans c.args.out.now.items (all (trees (map (shown c.args.columns) (take c.loop-row.row-index c.args.rows.now)))) c.loop-row.out.items c.put_row.new.out.items c.loop-row.invariant.put c.in_err-put_row.ensures.err)

pub loop-row-preserved : goal.loop-row-preserved
loop-row-preserved c = record {
  put =
      c.in_ok-put_row.ensures.ok
      ∙ ap (λ bytes. bytes ++ canonical (shown c.args.columns c.row-item.result)) c.loop-row.invariant.put
      ∙ all_more (shown c.args.columns) c.args.out.now.items c.args.rows.now c.loop-row.row-index c.row-item.result c.loop-row-test.true c.row-item.is;
  ranges = ranges_more (shown c.args.columns) c.args.rows.now c.loop-row.row-index c.row-item.result c.loop-row-test.true c.row-item.is c.loop-row.invariant.ranges c.in_ok-put_row.ensures.ranges;
}
