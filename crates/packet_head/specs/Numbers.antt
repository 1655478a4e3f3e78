-- The numbers of a frame, each once (docs/RULES.md, 2): by the Rust's names where it has one.
-- Assumes nothing.
use Rattle.std.specs.Prelude.{ℕ, ◌+◌}

-- ---- single bytes

-- the first byte of every frame
abbrev pub SOM : ℕ
SOM = 0x53

-- the highest address, which every reader takes for its own
abbrev pub BROADCAST_ADDR : ℕ
BROADCAST_ADDR = 0x7F

-- added to the address in what a reader sends
abbrev pub REPLY_FLAG : ℕ
REPLY_FLAG = 0x80

-- the highest sequence number
abbrev pub MAX_SQN : ℕ
MAX_SQN = 3

-- the bits of CTRL: the trailer is a CRC; a block follows
abbrev pub USE_CRC : ℕ
USE_CRC = 0x04

abbrev pub HAS_SCB : ℕ
HAS_SCB = 0x08

-- ---- lengths

-- SOM, address, LEN in two bytes, CTRL
abbrev pub HEADER_LEN : ℕ
HEADER_LEN = 5

-- a block's own length and its type
abbrev pub SCB_HEADER_LEN : ℕ
SCB_HEADER_LEN = 2

-- where a block's data begins
abbrev pub SCB_DATA_AT : ℕ
SCB_DATA_AT = HEADER_LEN + SCB_HEADER_LEN

-- what the block's length byte leaves for its data: 255 less these two
abbrev pub MAX_SCB_DATA : ℕ
MAX_SCB_DATA = 253

-- the command or reply code
abbrev pub CODE_LEN : ℕ
CODE_LEN = 1

-- the first bytes of a MAC, which a frame carries
abbrev pub MAC_LEN : ℕ
MAC_LEN = 4

abbrev pub CHECKSUM_LEN : ℕ
CHECKSUM_LEN = 1

abbrev pub CRC_LEN : ℕ
CRC_LEN = 2

-- what LEN's two bytes can say
abbrev pub MAX_LEN : ℕ
MAX_LEN = 65535
