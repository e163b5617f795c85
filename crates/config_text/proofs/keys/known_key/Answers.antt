use Rattle.std.proofs.Common.{◌∙◌, sym, append-nil}
use Rattle.config_text.proofs.KeyLemmas.{is_among_map}
use Rattle.config_text.proofs.keys.known_key.Goals as goal

pub returns-else-not-is_among : goal.returns-else-not-is_among
returns-else-not-is_among c =
    let among = is_among_map c.args.key.now c.args.known.now ∙ (sym c.is_among.ensures ∙ c.if-not-is_among.false) in
    rw among (sym (append-nil _))
