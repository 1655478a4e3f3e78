-- What was read, as C has it: flat, and all 0 after a refusal.
-- Assumes nothing.
use Rattle.std.specs.Prelude.{ℕ, false}
use Rattle.laws.specs.Answer.{Answer, Answer.given, Answer.refused}
use Rattle.packet_head.specs.Block.{BlockRead}
use Rattle.packet_head.specs.Trailer.{Tail, Tail.checksum, Tail.crc, is_crc}
use Rattle.packet_parse.specs.Frame.{Head, Fields, type_in, block_start_in, block_len_in, mac_start_of}
use Rattle.crossing.specs.Answers.{c_given, c_refused}
use Rattle.crossing.specs.declared.answer.CAnswer.{CAnswer}
use Rattle.crossing.specs.declared.parse.CBlock.{CBlock}
use Rattle.crossing.specs.declared.parse.CHead.{CHead}
use Rattle.crossing.specs.declared.parse.CParsed.{CParsed}

abbrev pub c_block : Answer BlockRead → CBlock
c_block (given b) = record { answer = c_given 0; ty = b.type; data_len = b.data_len }
c_block (refused n vs) = record { answer = c_refused n vs; ty = 0; data_len = 0 }

abbrev pub c_head : Answer Head → CHead
c_head (given h) = record { answer = c_given 0; addr = h.addr; len = h.len; sqn = h.ctrl.sqn; crc = h.ctrl.crc; block = h.ctrl.block }
c_head (refused n vs) = record { answer = c_refused n vs; addr = 0; len = 0; sqn = 0; crc = false; block = false }

abbrev pub tail_value : Tail → ℕ
tail_value (checksum n) = n
tail_value (crc n) = n

-- a refusal beside nothing
abbrev pub c_nothing : CAnswer → CParsed
c_nothing answer =
    record {
      answer = answer;
      addr = 0;
      sqn = 0;
      crc = false;
      block = false;
      block_type = 0;
      block_start = 0;
      block_len = 0;
      code = 0;
      data_start = 0;
      data_len = 0;
      mac_start = 0;
      trailer_is_crc = false;
      trailer = 0;
      len = 0;
    }

abbrev pub c_parsed : Answer Fields → CParsed
c_parsed (given p) =
    record {
      answer = c_given 0;
      addr = p.addr;
      sqn = p.ctrl.sqn;
      crc = p.ctrl.crc;
      block = p.ctrl.block;
      block_type = type_in p.block;
      block_start = block_start_in p.block;
      block_len = block_len_in p.block;
      code = p.code;
      data_start = p.data_start;
      data_len = p.data_len;
      mac_start = mac_start_of p.mac;
      trailer_is_crc = is_crc p.trailer;
      trailer = tail_value p.trailer;
      len = p.len;
    }
c_parsed (refused n vs) = c_nothing (c_refused n vs)
