-- What rows have alike that are shown as one.
use Rattle.std.specs.Prelude.{ℕ, List, Option, Some, None}
use Rattle.flow_map.specs.declared.request.GrantedRequest.TheVariants as request
use Rattle.flow_page.specs.declared.matrix.Found.{Found}
use Rattle.flow_page.specs.declared.matrix.Found.TheVariants as found
use Rattle.flow_page.specs.declared.view.keys.MarkKey.{MarkKey}
use Rattle.flow_page.specs.declared.view.keys.RowKey.{RowKey}
use Rattle.flow_page.specs.declared.view.keys.Word.{Word}
use Rattle.flow_page.specs.declared.view.keys.Word.TheVariants.{Nothing, Get, Set, Act, Edges}

-- the word of what is found: own profile
abbrev pub word_of : Option Found → Word
word_of None = Nothing
word_of (Some (found.Right (request.Get x))) = Get
word_of (Some (found.Right (request.Set x))) = Set
word_of (Some (found.Right (request.Act m))) = Act
word_of (Some (found.Right (request.Execute m script))) = Act
word_of (Some (found.Edges edges)) = Edges edges

-- what the cells of a row have alike: own profile
pub record RowFacts : Type 0 where
  pub class_id : ℕ
  pub index : ℕ
  pub marks : List MarkKey

abbrev pub row_facts : RowKey → RowFacts
row_facts key = record { class_id = key.class_id; index = key.index; marks = key.marks.items }
