-- Equality of tokens is an equivalence.
use Rattle.std.specs.Cmp.{IsEquivalence, IsPartialEquivalence, partial_equiv_from_equiv, on_equiv, and_equiv}
use Rattle.std.proofs.lemmas.Cmp.{nat_list_eq_equiv, nat_eq_equiv}
use Rattle.graphql_lexical.specs.Kinds.{rank}
use Rattle.juniper_tokens.specs.Tokens.{token_kind, token_text, scalar_kind, scalar_text, same_token, same_scalar}

pub same_token-equiv : IsEquivalence same_token
same_token-equiv = and_equiv (on_equiv (λ t. rank (token_kind t)) nat_eq_equiv) (on_equiv token_text nat_list_eq_equiv)

pub same_token-laws : IsPartialEquivalence same_token
same_token-laws = partial_equiv_from_equiv same_token-equiv

pub same_scalar-equiv : IsEquivalence same_scalar
same_scalar-equiv = and_equiv (on_equiv (λ t. rank (scalar_kind t)) nat_eq_equiv) (on_equiv scalar_text nat_list_eq_equiv)

pub same_scalar-laws : IsPartialEquivalence same_scalar
same_scalar-laws = partial_equiv_from_equiv same_scalar-equiv
