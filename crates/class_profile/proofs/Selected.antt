-- The rows that an entry descriptor asks for, of two slices.
use Rattle.std.specs.Prelude.{◌≡◌, ℕ, ◌-◌, ◌==◌, cond, List, ◌++◌, length, take, drop, map}
use Rattle.std.proofs.Common.{sym, ap, ◌∙◌}
use Rattle.std.proofs.lemmas.List.{map-append, length-map}
use Rattle.std.proofs.lemmas.Simd.{map-map}
use Rattle.cosem_data.specs.Tree.{Tree}
use Rattle.cosem_data.specs.TreeCode.{parts-trees}
use Rattle.cosem_data.specs.View.{tree}
use Rattle.cosem_data.specs.declared.data.Data.{Data}
use Rattle.meter_theory.specs.Selection.{EntryDescriptor, places_between, columns_of, entries_of}
use Rattle.meter_theory.specs.Value.{array_of}
use Rattle.class_profile.proofs.Places.{between-append, map-places_between}

pub selected_rows : (d : EntryDescriptor) (rows : List Tree) (older newer : List Data) (start end : ℕ) →
    map tree older ++ map tree newer ≡ rows → start ≡ d.from_entry - 1 → end ≡ cond (d.to_entry == 0) (length rows) d.to_entry →
    array_of (map (λ row. columns_of d (tree row)) (drop start (take end older))
    ++ map (λ row. columns_of d (tree row)) (drop (start - length older) (take (end - length older) newer)))
    ≡ entries_of d (array_of rows)
selected_rows d rows older newer start end are start-is end-is =
    let f : Data → Tree = λ row. columns_of d (tree row) in
    let both = older ++ newer in
    let same : map tree both ≡ rows = map-append tree older newer ∙ are in
    let count : length rows ≡ length both = ap length (sym same) ∙ length-map both tree in
    ap array_of
    (sym (map-append f (drop start (take end older)) (drop (start - length older) (take (end - length older) newer)))
    ∙ ap (map f) (sym (between-append start end older newer))
    ∙ ap (λ k. map f (drop k (take end both))) start-is
    ∙ ap (λ k. map f (drop (d.from_entry - 1) (take k both))) (end-is ∙ ap (λ n. cond (d.to_entry == 0) n d.to_entry) count)
    ∙ sym (map-map (columns_of d) tree (places_between d.from_entry d.to_entry both))
    ∙ ap (map (columns_of d)) (map-places_between tree d.from_entry d.to_entry both ∙ ap (places_between d.from_entry d.to_entry) (same ∙ sym (parts-trees rows))))
