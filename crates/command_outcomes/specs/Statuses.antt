-- The statuses that the program ends with.
use Rattle.std.specs.Prelude.{ℕ}

-- the output was written whole
abbrev pub DONE : ℕ
DONE = 0

-- the input is refused
abbrev pub REFUSED : ℕ
REFUSED = 1

-- the words are those of no command
abbrev pub USAGE : ℕ
USAGE = 2

-- a file could not be read
abbrev pub FILE_FAILED : ℕ
FILE_FAILED = 3

-- a stream could not be written
abbrev pub STREAM_FAILED : ℕ
STREAM_FAILED = 4

-- there was no memory
abbrev pub NO_MEMORY : ℕ
NO_MEMORY = 5

-- a list of a reply is longer than its declared size
abbrev pub SIZE_BROKEN : ℕ
SIZE_BROKEN = 6

-- a reply is no response to its operation
abbrev pub NOT_RESPONSE : ℕ
NOT_RESPONSE = 7

-- the doors were not started, or one of them failed
abbrev pub DOOR_FAILED : ℕ
DOOR_FAILED = 8

-- the disk of a journal failed
abbrev pub DISK_FAILED : ℕ
DISK_FAILED = 9
