-- Numbers copied from bytes into the table, and an edge's body stored over 86 zeros: what stands there is the edge.
use Rattle.std.proofs.Common.{◌≡◌, refl, sym, ◌∙◌, ap, ap₂, List, [], ◌∷◌, ◌++◌, append_assoc, append-nil, ℕ, zero, suc}
use Rattle.std.proofs.Common.{◌+◌, ◌<◌, ◌≤◌, arith, add-one, length, get_or, drop, drop-cons}
use Rattle.std.proofs.Common.{◌-◌, ◌/◌, take, length-drop}
use borrow.Rule.Slice.PartMut.{put_mid}
use lib.ListN.{set}
use lib.Seq.{drop-length, drop-drop, set_at, length-take-le}
use Rattle.model.specs.Basics.{zeros}
use Rattle.model.specs.Files.{number_at, number_bytes, fields_body, most_grouped_body, numbers_of, edge_from}
use Rattle.model.specs.Layout.{edge_fields, edge_width, text_count, edge_numbers}
use Rattle.model.proofs.Bytes.{number_later, numbers_of_length}
use Rattle.numbers.proofs.Parts.{part_rest}
use Rattle.reader.proofs.Tables.{drop_zeros}

-- one number more
numbers_last : (n : ℕ) (s : List ℕ) → numbers_of (suc n) s ≡ numbers_of n s ++ (number_at n s ∷ [])
numbers_last zero s = refl
numbers_last (suc n) s =
    let e : 1 + n ≡ suc n = omega arith in
    ap (λ (l : List ℕ). number_at 0 s ∷ l)
    (numbers_last n (drop 2 s)
    ∙ ap (λ (x : ℕ). numbers_of n (drop 2 s) ++ (x ∷ [])) (number_later n 1 s ∙ ap (λ (k : ℕ). number_at k s) e))

-- the numbers copied so far, then what stood there
pub copied_next :
    (s was : List ℕ) (i v : ℕ) → i < length was → v ≡ number_at i s
    → set (numbers_of i s ++ drop i was) i v ≡ numbers_of (i + 1) s ++ drop (i + 1) was
copied_next s was i v h e =
    let more : numbers_of (i + 1) s ≡ numbers_of i s ++ (number_at i s ∷ []) =
    ap (λ (k : ℕ). numbers_of k s) (add-one i) ∙ numbers_last i s in
    ap (λ (l : List ℕ). set (numbers_of i s ++ l) i v) (drop-cons was i 0 h)
    ∙ (set_at (numbers_of i s) (get_or was i 0) (drop (suc i) was) v i (numbers_of_length i s)
    ∙ sym
    (ap₂ ◌++◌ more (ap (λ (k : ℕ). drop k was) (add-one i))
    ∙ (append_assoc (numbers_of i s) (number_at i s ∷ []) (drop (suc i) was)
    ∙ ap (λ (x : ℕ). numbers_of i s ++ (x ∷ drop (suc i) was)) (sym e))))

pub copied_end :
    (s was : List ℕ) (i : ℕ) → i ≡ length was → numbers_of i s ++ drop i was ≡ numbers_of (length was) s
copied_end s was i e = rw (e, drop-length was) (append-nil (numbers_of (length was) s))

-- An edge's 86 places: its kind, its four fields, its count, its text, zeros.
four : (s : List ℕ) → numbers_of 4 s ≡ number_at 0 s ∷ number_at 1 s ∷ number_at 2 s ∷ number_at 3 s ∷ []
four s = rw (drop-drop 2 2 s, drop-drop 2 4 s, number_later 0 1 s, number_later 0 2 s, number_later 0 3 s)

abbrev text_places : ℕ
text_places = edge_width - edge_fields

-- what is written, one part after the other, over zeros
module _
    (kind : ℕ) (body edge : List ℕ) (few : length body ≤ most_grouped_body) (zero_is : edge ≡ zeros edge_width)
    (k : ℕ) (k_is : k ≡ kind)
    (fields : List ℕ) (fields_copied : fields ≡ numbers_of (length (take 4 (drop 1 (set edge 0 k)))) body)
    (n : ℕ) (n_is : n ≡ (length body - fields_body) / number_bytes) (m : ℕ) (m_is : m ≡ text_count kind n)
  where
    fields_are : fields ≡ number_at 0 body ∷ number_at 1 body ∷ number_at 2 body ∷ number_at 3 body ∷ []
    fields_are =
        fields_copied
        ∙ (ap (λ (e : List ℕ). numbers_of (length (take 4 (drop 1 (set e 0 k)))) body) zero_is ∙ four body)

    abbrev begun : List ℕ
    begun = set (put_mid 1 4 (set edge 0 k) fields) 5 m

    begun_is :
        begun
        ≡ kind ∷ number_at 0 body ∷ number_at 1 body ∷ number_at 2 body ∷ number_at 3 body ∷ text_count kind n
        ∷ zeros text_places
    begun_is = rw (fields_are, zero_is, k_is, m_is)

    past_is : edge_fields + n - edge_fields ≡ n
    past_is = omega arith

    pub edge_stored :
        (text : List ℕ)
        → text
        ≡ numbers_of (length (take (edge_fields + n - edge_fields) (drop edge_fields begun)))
        (take (length body - fields_body) (drop fields_body body))
        → put_mid edge_fields (edge_fields + n - edge_fields) begun text
        ≡ edge_numbers (edge_from kind (length body) body)
    edge_stored text copied =
        let long : n ≤ length (zeros text_places) = omega arith in
        let text_is : text ≡ numbers_of n (drop fields_body body) =
        copied ∙ rw (past_is, begun_is, part_rest fields_body body, length-take-le n (zeros text_places) long) in
        rw
        (past_is, begun_is, text_is, ← n_is, numbers_of_length n (drop fields_body body), drop_zeros n text_places)

-- the numbers of a body past its fields
pub text_size :
    (body : List ℕ)
    → length (take (length body - fields_body) (drop fields_body body)) / number_bytes
    ≡ (length body - fields_body) / number_bytes
text_size body =
    ap (λ (l : ℕ). l / number_bytes) (ap length (part_rest fields_body body) ∙ length-drop fields_body body)
