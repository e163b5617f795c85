use Rattle.std.proofs.Common.{◌++◌, map, ap, ◌∙◌, arith}
use Rattle.std.proofs.lemmas.Result.{on_ok_weaker}
use Rattle.cosem_data.specs.Tree.{trees}
use Rattle.cosem_axdr.specs.Canonical.{all}
use Rattle.class_profile.specs.EntriesView.{shown}
use Rattle.class_profile.proofs.Written.{lengths_split, ranges_append, count_of_rows, written}
use Rattle.class_profile.proofs.entries.put_entries.Goals as goal

pub overflow_cast-count : goal.overflow_cast-count
overflow_cast-count c = omega (arith, count_of_rows (shown c.args.columns) c.args.older.now c.args.newer.now, c.requires.0)

pub put_rows-requires : goal.put_rows-requires
put_rows-requires c = (lengths_split (map (shown c.args.columns) c.args.older.now) (map (shown c.args.columns) c.args.newer.now) c.requires.1).0

pub put_rows-requires-2 : goal.put_rows-requires-2
put_rows-requires-2 c = (lengths_split (map (shown c.args.columns) c.args.older.now) (map (shown c.args.columns) c.args.newer.now) c.requires.1).1

pub returns-clause-ok : goal.returns-clause-ok
returns-clause-ok c =
    let f = shown c.args.columns in
    let older = all (trees (map f c.args.older.now)) in
    let newer = all (trees (map f c.args.newer.now)) in
    on_ok_weaker c.put_rows-2.result
    (λ put. put
    ∙ ap (λ bytes. bytes ++ newer) (c.in_ok-put_rows.ensures.ok ∙ ap (λ bytes. bytes ++ older) c.in_ok-put_array_front.ensures.ok)
    ∙ written f c.args.out.now.items c.args.older.now c.args.newer.now)
    c.put_rows-2.ensures.ok

pub returns-clause-ranges : goal.returns-clause-ranges
returns-clause-ranges c =
    let f = shown c.args.columns in
    on_ok_weaker c.put_rows-2.result (ranges_append (map f c.args.older.now) (map f c.args.newer.now) c.in_ok-put_rows.ensures.ranges) c.put_rows-2.ensures.ranges
