-- A line that names a client.
use Rattle.std.specs.Prelude.{◌≡◌, ℕ, ◌≤◌, ◌%◌, Bool, true, false, ◌==◌, ◌&&◌, ◌||◌, nat_lt, nat_le, List, [], ◌∷◌, length, codes}
use Rattle.std.specs.Char.{is_ascii_alphanumeric}
use Rattle.std.specs.List.{list_all}
use Rattle.cost_num.specs.declared.TheConstants.{CAP}
use Rattle.cost_num.specs.declared.Cost.{Cost}
use Rattle.cost_num.specs.Amount.{IsAmount}
use Rattle.client_files.specs.Limits.{key_limit, carry_limit, thousandth}
use Rattle.client_files.specs.declared.client.Client.{Client}
use Rattle.client_files.specs.declared.heading.Version.{Version}
use Rattle.client_files.specs.declared.heading.Version.TheVariants.{One, Two}
use Rattle.client_files.specs.Lines.{words_of}

-- an ASCII letter or digit, `_` or `-`
abbrev pub is_key_byte : ℕ → Bool
is_key_byte byte = is_ascii_alphanumeric byte || (byte == 95 || byte == 45)

-- a key has 1 to 64 of these
abbrev pub is_key : List ℕ → Bool
is_key key = nat_lt 0 (length key) && (nat_le (length key) key_limit && list_all is_key_byte key)

-- what stands behind the allowances of a client that carries, and of one that doesn't
abbrev pub carry_words : Bool → List (List ℕ)
carry_words true = codes "carry" ∷ []
carry_words false = []

-- these texts spell the two components of an allowance
pub record IsAllowance (types fields : List ℕ) (allowance : Cost) : Type 0 where
  pub types_spelled : IsAmount CAP types allowance.types
  pub fields_spelled : IsAmount CAP fields allowance.fields

-- In version 1 no client carries, and allowances are whole thousandths. In version 2 a client that carries has an allowance
-- of at most half of the cap.
abbrev pub Allows : Version → Cost → Bool → Type 0
Allows One allowance carry = (carry ≡ false) × (allowance.types % thousandth ≡ 0) × (allowance.fields % thousandth ≡ 0)
Allows Two allowance carry = carry ≡ true → (allowance.types ≤ carry_limit) × (allowance.fields ≤ carry_limit)

-- in a file of this version, a key, the texts of an allowance and the mark are those of this client
pub record IsClient (version : Version) (key types fields : List ℕ) (carry : Bool) (client : Client) : Type 0 where
  pub key_is : client.key ≡ key
  pub carry_is : client.carry ≡ carry
  pub well_formed : is_key key ≡ true
  pub allowance : IsAllowance types fields client.allowance
  pub allowed : Allows version client.allowance carry

-- in a file of this version the line names this client
pub record IsClientLine (version : Version) (line : List ℕ) (client : Client) : Type 0 where
  pub key : List ℕ
  pub types : List ℕ
  pub fields : List ℕ
  pub carry : Bool
  pub words : words_of line ≡ key ∷ types ∷ fields ∷ carry_words carry
  pub client_is : IsClient version key types fields carry client
