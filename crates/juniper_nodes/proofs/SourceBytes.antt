-- The texts of a source's tokens are together no longer, in bytes, than the source.
use Rattle.std.proofs.Common.{◌≡◌, ℕ, ◌+◌, ◌-◌, ◌*◌, ◌≤◌, List, [], ◌∷◌, length, take, drop, sym, ap, ◌∙◌, subst, arith, rules}
use Rattle.std.specs.Prelude.{max}
use Rattle.std.specs.List.{sum_by}
use Rattle.std.proofs.lemmas.Str.{len_utf8_bounds}
use Rattle.std.proofs.lemmas.List.{take-append-drop, length-take-le, drop-drop}
use Rattle.std.proofs.lemmas.List.Sums.{sum_by-cons}
use Rattle.graphql_lexical.specs.declared.kind.Kind.TheVariants.{EndOfFile}
use Rattle.graphql_lexical.specs.Kinds.{spelling}
use Rattle.graphql_lexical.specs.Tokens.{quotes}
use Rattle.graphql_lexical.specs.device.Whole.{between}
use Rattle.graphql_lexical.specs.device.Indexed.{ReadsAt, LeadsAt}
use Rattle.graphql_lexical.specs.Cutting.{Lexeme}
use Rattle.graphql_lexical.proofs.Public.{reads_size, spells_token, read_end, read_token}
use Rattle.juniper_values.specs.Text.{Text}
use Rattle.juniper_nodes.proofs.TextLengths.{size, size_joins, drop_is_short}

-- ---- the bytes of a front and of a rest

parts_size : (n : ℕ) (t : Text) → size (take n t) + size (drop n t) ≡ size t
parts_size n t = sym (size_joins (take n t) (drop n t)) ∙ ap size (take-append-drop n t)

take_is_short : (n : ℕ) (t : Text) → size (take n t) ≤ size t
take_is_short n t = omega (arith, parts_size n t)

some_bytes : (t : Text) → length t ≤ size t
some_bytes [] = omega arith
some_bytes (c ∷ t) = omega (arith, (len_utf8_bounds c).0, some_bytes t)

-- ---- tokens

-- What a token that is not the end takes in its source, at least.
abbrev pub weight : Lexeme → ℕ
weight t = max 1 (size t.text)

between_is_short : (qs whole : Text) → size (between qs whole) ≤ size whole
between_is_short [] whole = omega arith
between_is_short (q ∷ qs) whole =
    let after = drop (length (q ∷ qs)) whole in
    omega (arith, take_is_short (length whole - 2 * length (q ∷ qs)) after, drop_is_short (length (q ∷ qs)) whole)

one_or : (m n : ℕ) → 1 ≤ n → m ≤ n → max 1 m ≤ n
one_or m n h k = omega arith

reads_bytes : (rest : Text) (n : ℕ) (t : Lexeme) → ReadsAt rest n t.kind t.text → (t.kind ≡ EndOfFile → ⊥)
    → weight t ≤ size (take n rest)
reads_bytes [] n t r none = absurd (none (read_end n t.kind t.text r).1)
reads_bytes (c ∷ cs) n t r none =
    let whole = take n (c ∷ cs) in
    let some = reads_size (c ∷ cs) n t.kind t.text r none in
    let text : size t.text ≤ size whole =
    subst (λ (u : Text). size u ≤ size whole)
    (sym (spells_token whole t.kind t.text (read_token c cs n t.kind t.text r).1).1)
    (between_is_short (quotes (spelling t.kind)) whole) in
    let bytes : 1 ≤ size whole = omega (arith, some.0, some.1, some_bytes whole, length-take-le n (c ∷ cs) some.1) in
    one_or (size t.text) (size whole) bytes text

pub leads_bytes : (source : Text) (k : ℕ) (ts : List Lexeme) (next : ℕ) → LeadsAt source k ts next
    → sum_by weight ts ≤ size (drop k source)
leads_bytes source k [] next h = search rules
leads_bytes source k (t ∷ ts) next (m, s, none, h) =
    let after_ignored = drop (k + s.ignored) source in
    let ignored : size after_ignored ≤ size (drop k source) =
    subst (λ (u : Text). size u ≤ size (drop k source)) (drop-drop s.ignored k source)
    (drop_is_short s.ignored (drop k source)) in
    let rest : drop s.size after_ignored ≡ drop m source =
    drop-drop s.size (k + s.ignored) source ∙ ap (λ i. drop i source) (sym s.next_is) in
    omega (
      arith,
      sum_by-cons weight t ts,
      leads_bytes source m ts next h,
      reads_bytes after_ignored s.size t s.reads
          none,
      parts_size s.size after_ignored,
      ap size rest,
      ignored,
    )
