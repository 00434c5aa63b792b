use Rattle.std.proofs.Common.{refl}
use Rattle.derivation.specs.Derivations.{v_done, v_word, v_bottom, v_plain, v_adjoined}
use Rattle.derivation.proofs.known_derivations.Goals as goal

pub returns : goal.returns
returns c = (
  record { derives = record { starts = refl; valid = v_plain refl refl (v_word refl v_done) v_done }; spelled = refl; yields = refl },
  record {
    derives = record {
      starts = refl;
      valid = v_adjoined refl refl (v_plain refl refl (v_word refl (v_plain refl refl (v_bottom v_done) v_done)) v_done) (v_word refl v_done) v_done;
    };
    spelled = refl;
    yields = refl;
  },
)
