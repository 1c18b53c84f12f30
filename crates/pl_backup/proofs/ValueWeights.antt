-- The values in a value that was read, and the bytes of their texts, are together no more than the
-- bytes of the text that it was read from.
use Rattle.std.proofs.Common.{◌≡◌, ◌≤◌, ◌+◌, ℕ, zero, suc, List, [], ◌∷◌, length, arith, subst}
use Rattle.std.proofs.Common.{Option, Some, None, option_and_then, option_map}
use Rattle.std.proofs.Common.{Ordering, Less, Equal, Greater}
use Rattle.std.specs.Prelude.{⊤}
use Rattle.std.specs.Cmp.Lexicographic.{slice_cmp}
use Rattle.std.specs.Ordering.{match_ordering, nat_cmp}
use Rattle.json.specs.Token.{Token}
use Rattle.json.specs.Lex.{tokens}
use Rattle.json.specs.Json as json
use Rattle.json.specs.Json.{Json, Parse, after_end_array, if_last, items_step, members_step, parse_map}
use Rattle.json.specs.Json.{read_key, value_with}
use Rattle.pl_backup.proofs.TokenWeights.{text_weight, tokens_weight}
use Rattle.pl_backup.specs.Weights.{items_weight, members_weight, weight}
use Rattle.serde_json.specs.Data.{Data, Members, array, item, member}
use Rattle.serde_json.specs.Data.{no_members, number, object, put}
use Rattle.serde_json.specs.Read.{max_depth, number_of, of_items, of_json, of_members, read}

-- ---- weights

abbrev mutual
  -- each value counts one, and the bytes of a text
  json_weight : Json → ℕ
  json_weight json.null = 1
  json_weight (json.boolean b) = 1
  json_weight (json.number s) = 1
  json_weight (json.string s) = 1 + length s
  json_weight (json.array js) = 1 + json_items js
  json_weight (json.object ms) = 1 + json_members ms

  json_items : json.Items → ℕ
  json_items json.no_items = 0
  json_items (json.item j js) = json_weight j + json_items js

  json_members : json.Members → ℕ
  json_members json.no_members = 0
  json_members (json.member k j ms) = json_weight j + json_members ms

-- ---- what is at most so much, where there is something

abbrev AtMost : {A : Type 0} → (A → ℕ) → ℕ → Option A → Type 0
AtMost f n None = ⊤
AtMost f n (Some a) = f a ≤ n

mapped : {A B : Type 0} (f : A → ℕ) (g : B → ℕ) (m n : ℕ) (h : A → B) → ((a : A) → f a ≤ m → g (h a) ≤ n)
    → (o : Option A) → AtMost f m o → AtMost g n (option_map h o)
mapped f g m n h step None small = tt
mapped f g m n h step (Some a) small = step a small

then : {A B : Type 0} (f : A → ℕ) (g : B → ℕ) (m n : ℕ) (h : A → Option B)
    → ((a : A) → f a ≤ m → AtMost g n (h a)) → (o : Option A) → AtMost f m o → AtMost g n (option_and_then h o)
then f g m n h step None small = tt
then f g m n h step (Some a) small = step a small

-- ---- the grammar

-- what was read and what is left behind it
abbrev read_weight : {A : Type 0} → (A → ℕ) → A × List Token → ℕ
read_weight f p = f p.0 + tokens_weight p.1

-- what is read takes as much as it weighs
abbrev Takes : {A : Type 0} → (A → ℕ) → Parse A → Type 0
Takes f parse = (ts : List Token) → AtMost (read_weight f) (tokens_weight ts) (parse ts)

end_weight : (ts : List Token) → AtMost tokens_weight (tokens_weight ts) (after_end_array ts)
end_weight [] = tt
end_weight (Token.begin_object ∷ ts) = tt
end_weight (Token.end_object ∷ ts) = tt
end_weight (Token.begin_array ∷ ts) = tt
end_weight (Token.end_array ∷ ts) = omega arith
end_weight (Token.key s ∷ ts) = tt
end_weight (Token.string s ∷ ts) = tt
end_weight (Token.number s ∷ ts) = tt
end_weight (Token.boolean b ∷ ts) = tt
end_weight (Token.null ∷ ts) = tt
end_weight (Token.bad ∷ ts) = tt

key_weight : Takes (λ (k : Option (List ℕ)). 0) read_key
key_weight [] = tt
key_weight (Token.begin_object ∷ ts) = tt
key_weight (Token.end_object ∷ ts) = omega arith
key_weight (Token.begin_array ∷ ts) = tt
key_weight (Token.end_array ∷ ts) = tt
key_weight (Token.key s ∷ ts) = omega arith
key_weight (Token.string s ∷ ts) = tt
key_weight (Token.number s ∷ ts) = tt
key_weight (Token.boolean b ∷ ts) = tt
key_weight (Token.null ∷ ts) = tt
key_weight (Token.bad ∷ ts) = tt

-- one more in front
with_front : {A : Type 0} (f : A → ℕ) (g : A → A) (m n w : ℕ) → ((a : A) → f (g a) ≤ w + f a) → w + m ≤ n
    → (o : Option (A × List Token)) → AtMost (read_weight f) m o → AtMost (read_weight f) n (parse_map g o)
with_front f g m n w step room None small = tt
with_front f g m n w step room (Some p) small = omega (arith, step p.0)

module _ (value : Parse Json) (takes : Takes json_weight value) where
  items_turn : (more : Parse json.Items) → Takes json_items more → (ts : List Token) (o : Option (List Token))
      → AtMost tokens_weight (tokens_weight ts) o
      → AtMost (read_weight json_items) (tokens_weight ts) (items_step value more ts o)
  items_turn more rest ts (Some r) small = omega arith
  items_turn more rest ts None small =
      then (read_weight json_weight) (read_weight json_items) (tokens_weight ts) (tokens_weight ts) _
      (λ p fits. with_front json_items (json.item p.0) (tokens_weight p.1) (tokens_weight ts) (json_weight p.0)
      (λ a. omega arith) fits (more p.1) (rest p.1))
      (value ts) (takes ts)

  items_take : (n : ℕ) → Takes json_items (json.items value n)
  unfolding json.items
  items_take zero ts = tt
  items_take (suc n) ts = items_turn (json.items value n) (items_take n) ts (after_end_array ts) (end_weight ts)

  members_turn : (more : Parse json.Members) → Takes json_members more → (k : Option (List ℕ)) (ts : List Token)
      → AtMost (read_weight json_members) (tokens_weight ts) (members_step value more k ts)
  members_turn more rest None ts = omega arith
  members_turn more rest (Some k) ts =
      then (read_weight json_weight) (read_weight json_members) (tokens_weight ts) (tokens_weight ts) _
      (λ p fits. with_front json_members (json.member k p.0) (tokens_weight p.1) (tokens_weight ts) (json_weight p.0)
      (λ a. omega arith) fits (more p.1) (rest p.1))
      (value ts) (takes ts)

  members_take : (n : ℕ) → Takes json_members (json.members value n)
  unfolding json.members
  members_take zero ts = tt
  members_take (suc n) ts =
      then (read_weight (λ (k : Option (List ℕ)). 0)) (read_weight json_members) (tokens_weight ts) (tokens_weight ts)
      _ (λ p fits. less (tokens_weight p.1) (tokens_weight ts) (omega arith) _
      (members_turn (json.members value n) (members_take n) p.0 p.1))
      (read_key ts) (key_weight ts)
    where
      less : (m n : ℕ) → m ≤ n → (o : Option (json.Members × List Token)) → AtMost (read_weight json_members) m o
          → AtMost (read_weight json_members) n o
      less m n room None small = tt
      less m n room (Some p) small = omega arith

module _ (a : Parse json.Items) (o : Parse json.Members) (items_fit : Takes json_items a) where
  with_take : Takes json_members o → Takes json_weight (value_with a o)
  with_take members_fit [] = tt
  with_take members_fit (Token.begin_object ∷ ts) =
      mapped (read_weight json_members) (read_weight json_weight) (tokens_weight ts) _ _ (λ p fits. omega arith)
      (o ts) (members_fit ts)
  with_take members_fit (Token.end_object ∷ ts) = tt
  with_take members_fit (Token.begin_array ∷ ts) =
      mapped (read_weight json_items) (read_weight json_weight) (tokens_weight ts) _ _ (λ p fits. omega arith)
      (a ts) (items_fit ts)
  with_take members_fit (Token.end_array ∷ ts) = tt
  with_take members_fit (Token.key s ∷ ts) = tt
  with_take members_fit (Token.string s ∷ ts) = omega arith
  with_take members_fit (Token.number s ∷ ts) = omega arith
  with_take members_fit (Token.boolean b ∷ ts) = omega arith
  with_take members_fit (Token.null ∷ ts) = omega arith
  with_take members_fit (Token.bad ∷ ts) = tt

value_takes : (levels : ℕ) → Takes json_weight (json.value levels)
unfolding json.value
value_takes zero = with_take (λ ts. None) (λ ts. None) (λ ts. tt) (λ ts. tt)
value_takes (suc levels) =
    with_take (λ ts. json.items (json.value levels) (length ts) ts) (λ ts. json.members (json.value levels) (length ts) ts)
    (λ ts. items_take (json.value levels) (value_takes levels) (length ts) ts)
    (λ ts. members_take (json.value levels) (value_takes levels) (length ts) ts)

-- ---- from the grammar to data

chosen : (o : Ordering) (a b c : Members) (n : ℕ) → members_weight a ≤ n → members_weight b ≤ n → members_weight c ≤ n
    → members_weight (match_ordering o a b c) ≤ n
chosen Less a b c n p q r = p
chosen Equal a b c n p q r = q
chosen Greater a b c n p q r = r

put_weight : (k : List ℕ) (d : Data) (ms : Members) → members_weight (put k d ms) ≤ weight d + members_weight ms
put_weight k d no_members = omega arith
put_weight k d (member l e ms) =
    chosen (slice_cmp nat_cmp k l) (member k d (member l e ms)) (member l d ms) (member l e (put k d ms)) _
    (omega arith) (omega arith) (omega (arith, put_weight k d ms))

any : {A : Type 0} (o : Option A) → AtMost (λ a. 0) 0 o
any None = tt
any (Some a) = omega arith

mutual
  of_json_weight : (j : Json) → AtMost weight (json_weight j) (of_json j)
  of_json_weight json.null = omega arith
  of_json_weight (json.boolean b) = omega arith
  of_json_weight (json.number s) =
      mapped (λ a. 0) weight 0 1 number (λ a small. omega arith) (number_of s) (any (number_of s))
  of_json_weight (json.string s) = omega arith
  of_json_weight (json.array js) =
      mapped items_weight weight (json_items js) _ array (λ a small. omega arith) (of_items js) (of_items_weight js)
  of_json_weight (json.object ms) =
      mapped members_weight weight (json_members ms) _ object (λ a small. omega arith) (of_members ms no_members)
      (of_members_weight ms no_members (json_members ms) (omega arith))

  of_items_weight : (js : json.Items) → AtMost items_weight (json_items js) (of_items js)
  of_items_weight json.no_items = omega arith
  of_items_weight (json.item j js) =
      then weight items_weight (json_weight j) _ _
      (λ d small. mapped items_weight items_weight (json_items js) _ (item d) (λ ds few. omega arith) (of_items js)
      (of_items_weight js))
      (of_json j) (of_json_weight j)

  of_members_weight : (ms : json.Members) (found : Members) (n : ℕ) → json_members ms + members_weight found ≤ n
      → AtMost members_weight n (of_members ms found)
  of_members_weight json.no_members found n room = omega arith
  of_members_weight (json.member k j ms) found n room =
      then weight members_weight (json_weight j) n _
      (λ d small. of_members_weight ms (put k d found) n (omega (arith, put_weight k d found)))
      (of_json j) (of_json_weight j)

-- ---- a text

last_weight : (n : ℕ) (o : Option (Json × List Token)) → AtMost (read_weight json_weight) n o
    → AtMost json_weight n (option_and_then (λ p. if_last p.0 p.1) o)
last_weight n None small = tt
last_weight n (Some (j, [])) small = omega arith
last_weight n (Some (j, t ∷ ts)) small = tt

-- a value weighs no more than the text has bytes that it was read from
pub value_weight : (text : List ℕ) (d : Data) → read text ≡ Some d → weight d ≤ length text
value_weight text d is =
    subst (AtMost weight (length text)) is
    (then json_weight weight (length text) (length text) of_json
    (λ j small. more (json_weight j) (length text) small (of_json j) (of_json_weight j))
    _ (more_json (tokens_weight (tokens text)) (length text) (text_weight text) _
    (last_weight (tokens_weight (tokens text)) (json.value max_depth (tokens text))
    (value_takes max_depth (tokens text)))))
  where
    more : (m n : ℕ) → m ≤ n → (o : Option Data) → AtMost weight m o → AtMost weight n o
    more m n room None small = tt
    more m n room (Some d) small = omega arith

    more_json : (m n : ℕ) → m ≤ n → (o : Option Json) → AtMost json_weight m o → AtMost json_weight n o
    more_json m n room None small = tt
    more_json m n room (Some d) small = omega arith
