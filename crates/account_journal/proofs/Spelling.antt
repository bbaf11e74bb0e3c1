-- What is written as a record is read as that record.
use Rattle.std.proofs.Common.{◌≡◌, ◌≢◌, ℕ, ◌+◌, ◌<◌, ◌^◌, ◌==◌, cond, Bool, true, false, List, length, take, drop, get_or, Option, Some, None, refl, ◌∙◌, ap, arith}
use Rattle.std.proofs.lemmas.List.{take_all, length-drop}
use Rattle.std.proofs.lemmas.Bool.{cond-true, cond-false, and_parts, eqb-true}
use Rattle.std.proofs.lemmas.Bool.Decides.{nat_tests}
use Rattle.std.specs.List.{list_all}
use Rattle.std.proofs.lemmas.Nat.{from_be_bytes-to_be_bytes_4, from_be_bytes-to_be_bytes_8}
use Rattle.account_journal.specs.Reading.{is_header}
use Rattle.cost_num.specs.declared.Cost.{Cost}
use Rattle.account_journal.specs.Records.{record_bytes, client_in, number_in, cost_in, record_of, rest_is_zero, Record, grant_record, settlement_record}

module _ (client number : ℕ) (c : Cost) (fits_client : client < 2 ^ 32) (fits_number : number < 2 ^ 64) (fits_types : c.types < 2 ^ 64) (fits_fields : c.fields < 2 ^ 64) where
  numbers_are : (i : ℕ) → i ≡ i
  numbers_are i = refl

  pub read_grant : record_of (record_bytes 1 client number c) ≡ Some (grant_record client number c)
  unfolding record_of
  read_grant = λ i. Some (grant_record (from_be_bytes-to_be_bytes_4 client fits_client i) (from_be_bytes-to_be_bytes_8 number fits_number i) (record { types = from_be_bytes-to_be_bytes_8 c.types fits_types i; fields = from_be_bytes-to_be_bytes_8 c.fields fits_fields i }))

  pub read_settlement : record_of (record_bytes 2 client number c) ≡ Some (settlement_record client number c)
  unfolding record_of
  read_settlement = λ i. Some (settlement_record (from_be_bytes-to_be_bytes_4 client fits_client i) (from_be_bytes-to_be_bytes_8 number fits_number i) (record { types = from_be_bytes-to_be_bytes_8 c.types fits_types i; fields = from_be_bytes-to_be_bytes_8 c.fields fits_fields i }))

abbrev no_record : Option Record
no_record = None

abbrev granted_in : List ℕ → Option Record
granted_in body = Some (grant_record (client_in body) (number_in body) (cost_in body))

abbrev settled_in : List ℕ → Option Record
settled_in body = Some (settlement_record (client_in body) (number_in body) (cost_in body))

module _ (body : List ℕ) where
  abbrev by_kind : Option Record
  by_kind = cond (get_or body 0 0 == 1) (granted_in body) (cond (get_or body 0 0 == 2) (settled_in body) None)

  pub zero_from : (at n : ℕ) → length body ≡ at + n → list_all (λ b. b == 0) (take n (drop at body)) ≡ list_all (λ b. b == 0) (drop at body)
  zero_from at n long = ap (list_all (λ b. b == 0)) (take_all n (drop at body) (omega (arith, length-drop at body, long)))

  pub reads_grant : rest_is_zero body ≡ true → get_or body 0 0 ≡ 1 → record_of body ≡ granted_in body
  unfolding record_of
  reads_grant rest kind =
      let k : (get_or body 0 0 == 1) ≡ true = grind (arith, nat_tests, kind) in
      cond-true (rest_is_zero body) by_kind None rest ∙ cond-true (get_or body 0 0 == 1) (granted_in body) (cond (get_or body 0 0 == 2) (settled_in body) None) k

  pub reads_settlement : rest_is_zero body ≡ true → get_or body 0 0 ≡ 2 → record_of body ≡ settled_in body
  unfolding record_of
  reads_settlement rest kind =
      let j : (get_or body 0 0 == 1) ≡ false = grind (arith, nat_tests, kind) in
      let k : (get_or body 0 0 == 2) ≡ true = grind (arith, nat_tests, kind) in
      cond-true (rest_is_zero body) by_kind None rest ∙ cond-false (get_or body 0 0 == 1) (granted_in body) (cond (get_or body 0 0 == 2) (settled_in body) None) j
      ∙ cond-true (get_or body 0 0 == 2) (settled_in body) None k

  pub reads_no_kind : get_or body 0 0 ≢ 1 → get_or body 0 0 ≢ 2 → record_of body ≡ None
  unfolding record_of
  reads_no_kind one two =
      let j : (get_or body 0 0 == 1) ≡ false = grind (arith, nat_tests, one) in
      let k : (get_or body 0 0 == 2) ≡ false = grind (arith, nat_tests, two) in
      ap (λ (o : Option Record). cond (rest_is_zero body) o None)
      (cond-false (get_or body 0 0 == 1) (granted_in body) (cond (get_or body 0 0 == 2) (settled_in body) None) j ∙ cond-false (get_or body 0 0 == 2) (settled_in body) None k)
      ∙ same (rest_is_zero body)
    where
      same : (t : Bool) → cond t no_record no_record ≡ no_record
      same true = refl
      same false = refl

  pub reads_no_rest : rest_is_zero body ≡ false → record_of body ≡ None
  unfolding record_of
  reads_no_rest rest = cond-false (rest_is_zero body) by_kind None rest

-- a header says no record
pub header_is_none : (body : List ℕ) → is_header body ≡ true → record_of body ≡ None
header_is_none body is =
    let kind : get_or body 0 0 ≡ 0 = eqb-true (get_or body 0 0) 0 (and_parts (get_or body 0 0 == 0) (list_all (λ b. b == 0) (drop 33 body)) is).0 in
    reads_no_kind body (λ (one : get_or body 0 0 ≡ 1). absurd (omega (arith, kind, one))) (λ (two : get_or body 0 0 ≡ 2). absurd (omega (arith, kind, two)))
