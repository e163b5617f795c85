use Rattle.std.proofs.Common.{◌≡◌, ◌+◌, ◌*◌, ◌++◌, drop, take, map}
use Rattle.cosem_data.specs.Tree.{trees, depth, deepest}
use Rattle.cosem_data.specs.View.{tree}
use Rattle.value_words.specs.Words.{more_words}
use Rattle.value_words.specs.WordLaws.{HaveRanges}
use Rattle.value_words.proofs.writing.+put.Given as goal

-- the parts before are written, and those that follow are put behind them
abbrev pub invariant-put_list-loop-part : goal.invariant-put_list-loop-part
invariant-put_list-loop-part l =
    record {
      put : l.text.items ++ more_words (trees (map tree (drop l.part-index l.others))) ≡ l.initial.text.items ++ more_words (trees (map tree l.others));
      ranges : HaveRanges (trees (map tree (take l.part-index l.others)));
    }

abbrev pub decreases-put : goal.decreases-put
decreases-put l = 3 * depth (tree l.value.now) + 1

abbrev pub decreases-put_content : goal.decreases-put_content
decreases-put_content l = 3 * depth (tree l.value.now)

abbrev pub decreases-put_list : goal.decreases-put_list
decreases-put_list l = 3 * deepest (map tree l.parts.now) + 2
