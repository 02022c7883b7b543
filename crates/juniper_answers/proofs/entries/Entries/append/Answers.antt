use Rattle.std.proofs.Common.{◌≡◌, ◌≤◌, ◌++◌, ◌∷◌, [], IfOk, length, length-take, take, sym, ap, subst, ◌∙◌, arith}
use Rattle.std.specs.Prelude.{insert}
use Rattle.std.specs.List.{zip}
use Rattle.std.specs.String.{string_eq}
use Rattle.indexmap.specs.IndexSet.{insert_key}
use Rattle.juniper_answers.specs.Entries.{entries_of}
use Rattle.juniper_answers.proofs.Sides.{cut_keys, keys_shown, new_key, one_more_entry}
use Rattle.juniper_answers.proofs.entries.Entries.append.Goals as goal

pub returns-then-is_err-clause-unchanged : goal.returns-then-is_err-clause-unchanged
returns-then-is_err-clause-unchanged g c =
    let ks = c.args.self.now.keys.keys in
    let vs = c.args.self.now.values.items in
    let cut : c.reserve.new.self.keys ≡ take (length vs) ks = c.reserve.ensures.keys ∙ c.truncate.ensures.keys
    ∙ ap (λ n. take n ks) (c.len.ensures ∙ c.args.self.now.values.ok.0) in
    ap (λ l. zip l vs) cut ∙ cut_keys ks vs

pub returns-in-Err-clause-unchanged : goal.returns-in-Err-clause-unchanged
returns-in-Err-clause-unchanged g c =
    let ks = c.args.self.now.keys.keys in
    let vs = c.args.self.now.values.items in
    let cut : c.reserve.new.self.keys ≡ take (length vs) ks = c.reserve.ensures.keys ∙ c.truncate.ensures.keys
    ∙ ap (λ n. take n ks) (c.len.ensures ∙ c.args.self.now.values.ok.0) in
    (λ i. zip (cut i) (c.in-Err.ensures.items i)) ∙ cut_keys ks vs

pub returns-in-Ok-clause-put : goal.returns-in-Ok-clause-put
returns-in-Ok-clause-put g c =
    let ks = c.args.self.now.keys.keys in
    let vs = c.args.self.now.values.items in
    let key = c.args.key in
    let ls = take (length vs) ks in
    let old = c.truncate.ensures.keys ∙ ap (λ n. take n ks) (c.len.ensures ∙ c.args.self.now.values.ok.0) in
    let cut : c.reserve.new.self.keys ≡ ls = c.reserve.ensures.keys ∙ old in
    let place : c.len-place.result ≡ length ls = c.len-place.ensures.len ∙ ap length old in
    let keys : c.insert-in-Ok.new.self.keys ≡ ls ++ key ∷ [] =
    subst (λ r. IfOk r (λ _. c.insert-in-Ok.new.self.keys ≡ insert_key string_eq c.reserve.new.self.keys key))
    c.unwrap.ensures c.insert-in-Ok.ensures.keys
    ∙ ap (λ l. insert_key string_eq l key) cut
    ∙ new_key (string_eq key) (entries_of c.args.self.now) ls key (sym (keys_shown ks vs)) c.requires in
    let values : c.insert.new.self.items ≡ insert vs (length ls) c.args.value = c.in-Ok.ensures.items
    ∙ ap (λ n. insert vs n c.args.value) place in
    let within : length ls ≤ length vs = omega (arith, length-take (length vs) ks) in
    (λ i. zip (keys i) (values i)) ∙ one_more_entry ls vs key c.args.value within
    ∙ ap (λ es. es ++ (key, c.args.value) ∷ []) (cut_keys ks vs)
