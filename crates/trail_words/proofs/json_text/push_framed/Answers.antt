use Rattle.std.proofs.Common.{◌≡◌, ◌++◌, List, ℕ, String, Global, string_bytes, ap, ◌∙◌, append_assoc, rules}
use Rattle.serde_json.specs.Data.{Data, string}
use Rattle.serde_json.specs.View.{view}
use Rattle.serde_json.specs.Written.{compact_text}
use Rattle.serde_json.specs.declared.value.Value as value
use Rattle.trail_words.proofs.json_text.push_framed.Goals as goal

text-view : (s : String Global) → view (value.String s) ≡ string (string_bytes s)
text-view s = search (rules, value.the_lemmas)

-- three texts behind another
three-behind : (text one two three x y z : List ℕ) → one ≡ text ++ x → two ≡ one ++ y → three ≡ two ++ z → three ≡ text ++ (x ++ y ++ z)
three-behind text one two three x y z a b c =
    c ∙ ap (λ (t : List ℕ). t ++ z) (b ∙ ap (λ (t : List ℕ). t ++ y) a ∙ append_assoc text x y) ∙ append_assoc text (x ++ y) z

pub returns : goal.returns
returns c =
    let one = c.extend_from_slice.new.self.items in
    let two = c.in_ok-push_value.ensures ∙ ap (λ (d : Data). one ++ compact_text d) (text-view c.args.string) in
    three-behind _ _ _ _ _ _ _ c.in_ok-extend_from_slice.ensures.items two c.in_ok-extend_from_slice-2.ensures.items
