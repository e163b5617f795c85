use Rattle.std.proofs.Common.{◌∷◌, ◌++◌, List, ℕ, [], ap, sym, take, ◌∙◌}
use Rattle.std.proofs.lemmas.List.{flat_map_more, take_more}
use Rattle.fleet_audit.specs.declared.reading.UnreadFile.{UnreadFile}
use Rattle.meter_server.specs.Unread.{fleet_line, fleet_lines}
use Rattle.meter_server.proofs.unread.fleet_lines.Goals as goal

pub loop-file-preserved : goal.loop-file-preserved
loop-file-preserved c =
    let files = c.args.files.now in
    let i = c.loop-file.file-index in
    c.in_ok-push_line.ensures
    ∙ ap (λ (text : List ℕ). text ++ fleet_line c.file-item.result) c.loop-file.invariant
    ∙ flat_map_more fleet_line [] (take i files) c.file-item.result
    ∙ ap fleet_lines (ap (λ (file : UnreadFile). take i files ++ file ∷ []) c.file-item.is ∙ sym (take_more files i c.file-item.result c.loop-file-test.true))
