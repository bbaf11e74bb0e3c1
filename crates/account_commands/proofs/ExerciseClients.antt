-- The client file of an exercise is one.
use Rattle.std.proofs.Common.{refl, inr, [], ◌∷◌, false, codes, arith}
use Rattle.std.specs.Fmt.{digits}
use Rattle.cost_num.specs.declared.Cost.{Cost}
use Rattle.cost_num.specs.Amount.{Spells, IsAmount}
use Rattle.cost_num.specs.declared.TheConstants.{CAP}
use Rattle.client_files.specs.declared.client.Client.{Client}
use Rattle.client_files.specs.declared.heading.Version.TheVariants.{One}
use Rattle.client_files.specs.Lines.{lines_of, words_of}
use Rattle.client_files.specs.ClientFiles.{IsClientFile}
use Rattle.cost_vectors.specs.Texts.{clients_text}

abbrev twenty : Cost
twenty = record { types = 20000000; fields = 20000000 }

abbrev pub the_client : Client
the_client = record { key = codes "c"; allowance = twenty; carry = false }

spells_twenty : Spells (codes "20.000") 20000000
spells_twenty = record {
  whole = codes "20";
  fraction = codes "000";
  splits = record { digits = (omega arith, (omega arith, (omega arith, tt))); rest = inr ((omega arith, (omega arith, (omega arith, (omega arith, tt)))), refl) };
  fine = λ k past within. absurd (omega (arith, past, within));
  value = refl;
}

is_twenty : IsAmount CAP (codes "20.000") 20000000
is_twenty = record { spells = spells_twenty; in_range = omega arith }

pub exercise_clients : IsClientFile clients_text 60 (the_client ∷ [])
unfolding lines_of words_of digits
exercise_clients = record {
  version = One;
  second = codes "window 60";
  further = codes "c 20.000 20.000" ∷ [];
  cut = refl;
  window = record { text = refl; window = (omega arith, omega arith) };
  named = (
    record {
      key = codes "c";
      types = codes "20.000";
      fields = codes "20.000";
      carry = false;
      words = refl;
      client_is = record {
        key_is = refl;
        carry_is = refl;
        well_formed = refl;
        allowance = record { types_spelled = is_twenty; fields_spelled = is_twenty };
        allowed = (refl, refl, refl);
      };
    },
    tt,
  );
  some = omega arith;
  few = omega arith;
  distinct = refl;
}
