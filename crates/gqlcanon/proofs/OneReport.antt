-- Bytes have exactly one report, since a text has one cut or one break.
use Rattle.std.proofs.Common.{◌≡◌, inl, inr, ℕ, List, chars, codes, refl, sym, ap, ap₂, ◌∙◌, encode_utf8_all}
use Rattle.graphql_lexical.specs.Cutting.{Lexeme}
use Rattle.graphql_lexical.specs.Canonical.{canonical}
use Rattle.graphql_lexical.specs.laws.Laws.{HasOneCutOrBreak}
use Rattle.streams.specs.Reports.{HasOneReport}
use Rattle.streams.proofs.Public.{utf8_or_not}
use Rattle.gqlcanon.specs.Report.{Report, fault_line}
use Rattle.gqlcanon.specs.declared.report.CanonicalEnd.{CanonicalEnd}
use Rattle.gqlcanon.specs.declared.report.CanonicalEnd.TheVariants.{Text, Refused, NotUtf8}

module _ (ends : (source : List ℕ) → HasOneCutOrBreak source) where
  same_report : (bytes : List ℕ) (end other : CanonicalEnd) (text another : List ℕ) → Report bytes end text
      → Report bytes other another → (end ≡ other) × (text ≡ another)
  same_report bytes Text Text s t a b = (
    refl,
    a.1.2 ∙ ap (λ (xs : List Lexeme). encode_utf8_all (canonical xs))
        ((ends (chars bytes)).one_cut a.1.0 b.1.0 a.1.1 b.1.1) ∙ sym b.1.2,
  )
  same_report bytes Text Refused s t a b =
      absurd ((ends (chars bytes)).never_both a.1.0 b.1.0 b.1.1 a.1.1 b.1.2)
  same_report bytes Text NotUtf8 s t a b = absurd (b.0 a.0)
  same_report bytes Refused Text s t a b =
      absurd ((ends (chars bytes)).never_both b.1.0 a.1.0 a.1.1 b.1.1 a.1.2)
  same_report bytes Refused Refused s t a b =
      let same = (ends (chars bytes)).one_break a.1.0 b.1.0 a.1.1 b.1.1 a.1.2 b.1.2 in
      (refl, a.1.3 ∙ (ap₂ fault_line same.0 same.1 ∙ sym b.1.3))
  same_report bytes Refused NotUtf8 s t a b = absurd (b.0 a.0)
  same_report bytes NotUtf8 Text s t a b = absurd (a.0 b.0)
  same_report bytes NotUtf8 Refused s t a b = absurd (a.0 b.0)
  same_report bytes NotUtf8 NotUtf8 s t a b = (refl, a.1 ∙ sym b.1)

  some_report : (bytes : List ℕ) → (end : CanonicalEnd) × (text : List ℕ) × Report bytes end text
  some_report bytes = elim (utf8_or_not bytes) [
    | inl utf8 ↦ elim (ends (chars bytes)).some [
      | inl cut ↦ (Text, encode_utf8_all (canonical cut.0), (utf8, (cut.0, cut.1, refl)))
      | inr break ↦ (Refused, fault_line break.0 break.1, (utf8, (break.0, break.1, break.2, refl)))
    ]
    | inr none ↦ (NotUtf8, codes "Not UTF-8\n", (none, refl))
  ]

  pub one_report : HasOneReport Report
  one_report = record { some = some_report; one = same_report }
