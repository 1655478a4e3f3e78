-- What the cipher's calls answer, as C has it.
-- Assumes nothing.
use Rattle.std.specs.Prelude.{ℕ}
use Rattle.refusal.specs.Reading.{length_answer}
use Rattle.secure_keys.specs.declared.crypto.SessionKeys.{SessionKeys}
use Rattle.secure_cipher.specs.declared.cipher.Ciphered.{Ciphered}
use Rattle.secure_cipher.specs.Cbc.{Done}
use Rattle.secure_cipher.specs.Mac.{Mac}
use Rattle.crossing.specs.Answers.{c_answer}
use Rattle.crossing.specs.declared.keys.CKeys.{CKeys}
use Rattle.crossing.specs.declared.cipher.CCiphered.{CCiphered}
use Rattle.crossing.specs.declared.cipher.CChain.{CChain}

abbrev pub c_keys : SessionKeys → CKeys
c_keys k = record { s_enc = k.s_enc; s_mac1 = k.s_mac1; s_mac2 = k.s_mac2 }

abbrev pub c_done : Done → CCiphered
c_done d = record { answer = c_answer d.answer; calls = d.steps }

abbrev pub c_ciphered : Ciphered ℕ → CCiphered
c_ciphered c = record { answer = c_answer (length_answer c.answer); calls = c.calls }

abbrev pub c_chain : Mac → CChain
c_chain m = record { full = m.full; calls = m.steps }
