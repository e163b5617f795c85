use Rattle.std.proofs.Common.{◌∷◌, ◌++◌, ◌∙◌, [], ap, sym, append_assoc, arith}
use Rattle.std.proofs.lemmas.List.FromFn.{map-range_with_len_more}
use Rattle.flow_checker.specs.Clauses.{rights_of}
use Rattle.flow_checker.specs.declared.clauses.Clause.TheVariants.{Right}
use Rattle.flow_checker.proofs.clauses.push_rights.Goals as goal

pub loop-client-preserved : goal.loop-client-preserved
loop-client-preserved c =
    let before = c.args.clauses.now.items in
    let n = c.loop-client.client in
    c.in_ok-push.ensures.items
    ∙ (ap (λ cs. cs ++ Right c.args.reach n ∷ []) c.loop-client.invariant
    ∙ (append_assoc before (rights_of c.args.reach n) (Right c.args.reach n ∷ [])
    ∙ ap (λ cs. before ++ cs) (sym (map-range_with_len_more (Right c.args.reach) 0 n n (omega arith)))))
