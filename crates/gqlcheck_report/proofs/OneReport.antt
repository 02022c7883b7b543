-- Bytes have exactly one report: the definitions leave no choice of a tree or a fault.
use Rattle.std.proofs.Common.{◌≡◌, ◌⊎◌, inl, inr, ℕ, List, chars, codes, refl, sym, ap, ◌∙◌, encode_utf8_all}
use Rattle.std.specs.Prelude.{IsUtf8}
use Rattle.graphql_lexical.specs.Place.{Span}
use Rattle.graphql_grammar.specs.Tree.{Definition}
use Rattle.juniper_tokens.specs.Errors.{Fault}
use Rattle.juniper_values.specs.Scalar.{Content}
use Rattle.juniper_tree.specs.Scalars.{default_scalars}
use Rattle.juniper_parser.specs.Promise.{HasTree, IsRefusal}
use Rattle.juniper_documents.specs.Within.{HasTooDeep, HasTreeWithin, IsRefusedWithin, IsNestedTooDeep, HasOneResult}
use Rattle.streams.proofs.Public.{utf8_or_not}
use Rattle.gqlcheck_report.specs.Lines.{document_lines}
use Rattle.gqlcheck_report.specs.Report.{Report, OneReport, fault_line, deep_line, limit}
use Rattle.gqlcheck_report.specs.declared.report.RunEnd.{RunEnd}
use Rattle.gqlcheck_report.specs.declared.report.RunEnd.TheVariants.{Tree, Refused, NotUtf8, TooDeep, Device, Memory}

-- as texts have one fault, or a tree and no fault, and one token at most that is nested too deep, and one of these
module _ (one_fault : (source : List ℕ) (f g : Fault) → IsRefusal default_scalars source f
    → IsRefusal default_scalars source g → f ≡ g)
    (never_both : (source : List ℕ) (tree : List (Definition Content)) (fault : Fault)
    → HasTree default_scalars source tree → IsRefusal default_scalars source fault → ⊥)
    (one_deep : (depth : ℕ) (source : List ℕ) (a b : Span) → HasTooDeep default_scalars depth source a
    → HasTooDeep default_scalars depth source b → a ≡ b)
    (answers : (depth : ℕ) (source : List ℕ) → HasOneResult default_scalars depth source) where
  same_report : (bytes : List ℕ) (end other : RunEnd) (text another : List ℕ) → Report bytes end text
      → Report bytes other another → (end ≡ other) × (text ≡ another)
  same_report bytes Tree Tree s t a b = (
    refl,
    a.1.2 ∙ ap (λ (d : List (Definition Content)). encode_utf8_all (document_lines d))
        (b.1.1.only a.1.1.lexemes a.1.0 a.1.1.cut a.1.1.document) ∙ sym b.1.2,
  )
  same_report bytes Tree Refused s t a b = absurd (never_both (chars bytes) a.1.0 b.1.0 a.1.1 b.1.1)
  same_report bytes Tree NotUtf8 s t a b = absurd (b.0 a.0)
  same_report bytes Tree TooDeep s t a b = absurd (a.2.none b.1.0 b.1.1)
  same_report bytes Tree Device s t a b = absurd b
  same_report bytes Tree Memory s t a b = absurd b
  same_report bytes Refused Tree s t a b = absurd (never_both (chars bytes) b.1.0 a.1.0 b.1.1 a.1.1)
  same_report bytes Refused Refused s t a b =
      (refl, a.1.2 ∙ ap fault_line (one_fault (chars bytes) a.1.0 b.1.0 a.1.1 b.1.1) ∙ sym b.1.2)
  same_report bytes Refused NotUtf8 s t a b = absurd (b.0 a.0)
  same_report bytes Refused TooDeep s t a b = absurd (a.2.none b.1.0 b.1.1)
  same_report bytes Refused Device s t a b = absurd b
  same_report bytes Refused Memory s t a b = absurd b
  same_report bytes NotUtf8 Tree s t a b = absurd (a.0 b.0)
  same_report bytes NotUtf8 Refused s t a b = absurd (a.0 b.0)
  same_report bytes NotUtf8 NotUtf8 s t a b = (refl, a.1 ∙ sym b.1)
  same_report bytes NotUtf8 TooDeep s t a b = absurd (a.0 b.0)
  same_report bytes NotUtf8 Device s t a b = absurd b
  same_report bytes NotUtf8 Memory s t a b = absurd b
  same_report bytes TooDeep Tree s t a b = absurd (b.2.none a.1.0 a.1.1)
  same_report bytes TooDeep Refused s t a b = absurd (b.2.none a.1.0 a.1.1)
  same_report bytes TooDeep NotUtf8 s t a b = absurd (b.0 a.0)
  same_report bytes TooDeep TooDeep s t a b =
      (refl, a.1.2 ∙ ap deep_line (one_deep limit (chars bytes) a.1.0 b.1.0 a.1.1 b.1.1) ∙ sym b.1.2)
  same_report bytes TooDeep Device s t a b = absurd b
  same_report bytes TooDeep Memory s t a b = absurd b
  same_report bytes Device end s t a b = absurd a
  same_report bytes Memory end s t a b = absurd a

  report_of : (bytes : List ℕ) → IsUtf8 bytes
      → HasTreeWithin default_scalars limit (chars bytes)
      ⊎ (IsRefusedWithin default_scalars limit (chars bytes) ⊎ IsNestedTooDeep default_scalars limit (chars bytes))
      → (end : RunEnd) × (text : List ℕ) × Report bytes end text
  report_of bytes utf8 (inl (within, (tree, has))) =
      (Tree, encode_utf8_all (document_lines tree), (utf8, (tree, has, refl), within))
  report_of bytes utf8 (inr (inl (within, (fault, is)))) =
      (Refused, fault_line fault, (utf8, (fault, is, refl), within))
  report_of bytes utf8 (inr (inr (span, deep))) = (TooDeep, deep_line span, (utf8, (span, deep, refl)))

  some_report : (bytes : List ℕ) → (end : RunEnd) × (text : List ℕ) × Report bytes end text
  some_report bytes = elim (utf8_or_not bytes) [
    | inl utf8 ↦ report_of bytes utf8 (answers limit (chars bytes)).some
    | inr none ↦ (NotUtf8, codes "Not UTF-8\n", (none, refl))
  ]

  pub one_report : OneReport
  one_report = record { some = some_report; one = same_report }
