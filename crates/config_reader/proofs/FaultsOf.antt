-- All the faults of a text, against the first, by which it is refused.
use Rattle.std.proofs.Common.{◌≡◌, List, [], ◌∷◌, Result, Ok, Err, refl, ap, sym, ◌∙◌}
use Rattle.toml.specs.Data.{Members}
use Rattle.config_text.specs.Fault.{Fault, Faults, OfKeys, OfValues, by_first, faults_in as faults_read, first_found, first_of, ◌>>=◌}
use Rattle.config_text.specs.Parts.{Text, ConfigText}
use Rattle.config_text.specs.Document.{document_of, faults_of_document, parts_of, table_faults, tables_of}
use Rattle.config_rules.specs.Passes.{found, judged}
use Rattle.config_text.specs.Refusals.{Fails, Refuses}
use Rattle.config_text.specs.declared.fault.ConfigFault.{ConfigFault}
use Rattle.config_text.specs.declared.fault.ConfigFault.TheVariants as refusals
use Rattle.meter_theory.specs.Labels.{Policy}
use Rattle.meter_theory.specs.Plan.{Plan}
use Rattle.config_reader.specs.ConfigOf.{AreFaultsOf, Reads, ReadsOrRefuses, config_of, faults_in, faults_of}

-- a configuration in which no pass finds faults
pub none_judged : (c : ConfigText) → found c ≡ [] → judged c ≡ Ok tt
unfolding judged
none_judged c h = ap first_of h

-- what the passes find in what the tables say
passes_first : (c : ConfigText) (faults : List Fault) → AreFaultsOf (first_of faults >>= λ _. Ok c) (first_found (faults ∷ []))
passes_first c [] = refl
passes_first c (fault ∷ faults) = refl

-- The first fault of a text is the one by which it is refused, and it is read where it has none.
pub faults_first : (text : Text) → AreFaultsOf (config_of text) (faults_of text)
unfolding config_of faults_of judged table_faults tables_of
faults_first text = in_document (document_of text)
  where
    in_tables : (read : Result ConfigText Faults) →
        AreFaultsOf (by_first read >>= λ c. first_of (found c) >>= λ _. Ok c) (first_found (faults_read read ∷ faults_in (by_first read) ∷ []))
    in_tables (Ok c) = passes_first c (found c)
    in_tables (Err (OfKeys first others)) = refl
    in_tables (Err (OfValues first others)) = refl

    in_document : (d : Result Members Fault) →
        AreFaultsOf ((d >>= λ t. by_first (parts_of t)) >>= λ c. first_of (found c) >>= λ _. Ok c)
        (first_found (faults_of_document d ∷ faults_in (d >>= λ t. by_first (parts_of t)) ∷ []))
    in_document (Ok t) = in_tables (parts_of t)
    in_document (Err fault) = refl

-- what is refused by all the faults of a text begins with its first
fails : (refusal : ConfigFault) (said : Result ConfigText Fault) (faults : List Fault) → AreFaultsOf said faults → Refuses refusal faults → Fails refusal said
fails refusals.Memory said faults are refuses = tt
fails (refusals.Found first others) (Ok c) faults are refuses = cc
fails (refusals.Found first others) (Err fault) faults are refuses =
    let both = sym are ∙ ap first_of refuses in
    let same : fault ≡ first = cc in
    ap Err same

pub reads : (r : Result (Plan × Policy) ConfigFault) (said : Result ConfigText Fault) (faults : List Fault) → AreFaultsOf said faults →
    ReadsOrRefuses r said faults → Reads r said
reads (Ok made) (Ok c) faults are h = h
reads (Ok made) (Err fault) faults are h = h
reads (Err refusal) said faults are h = fails refusal said faults are h
