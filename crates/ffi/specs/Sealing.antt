-- Sealing and unsealing on a session that C hands in.
-- Assumes nothing.
use Rattle.std.specs.Prelude.{ℕ, List}
use Rattle.laws.specs.Answer.{Answer.refused}
use Rattle.secure_seal.specs.Seal.{seal_of}
use Rattle.secure_unseal.specs.Unseal.{unseal_of}
use Rattle.crossing.specs.declared.session.CSession.{CSession}
use Rattle.crossing.specs.declared.seal.CToSeal.{CToSeal}
use Rattle.crossing.specs.declared.seal.CSealed.{CSealed}
use Rattle.crossing.specs.declared.seal.CUnsealed.{CUnsealed}
use Rattle.crossing.specs.Answers.{c_refused}
use Rattle.crossing.specs.Sealing.{asked_arg, c_sealed, c_unsealed}
use Rattle.crossing.specs.Sessions.{session_arg, c_session}
use Rattle.ffi.specs.Sessions.{reading}

-- what is told, and the buffer in the end
pub record SealedC : Type 0 where
  pub told : CSealed
  pub out : List ℕ

unfoldable pub seal_arg : CSession → CToSeal → List ℕ → List ℕ → SealedC
seal_arg c p x o =
    reading (session_arg c)
    (λ s. let d = seal_of s (asked_arg p x) o in record { told = c_sealed d; out = d.out })
    (λ n vs. record { told = record { answer = c_refused n vs; calls = 0; session = c }; out = o })

pub record UnsealedC : Type 0 where
  pub told : CUnsealed
  pub work : List ℕ

unfoldable pub unseal_arg : CSession → List ℕ → List ℕ → UnsealedC
unseal_arg c f w =
    reading (session_arg c)
    (λ s. let d = unseal_of s f w in record { told = c_unsealed d.answer d.steps (c_session d.session); work = d.work })
    (λ n vs. record { told = c_unsealed (refused n vs) 0 c; work = w })
