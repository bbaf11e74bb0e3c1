-- The texts that are written whatever the files hold.
use Rattle.std.specs.Prelude.{ℕ, List, ◌++◌, codes}

-- how the program is used: each command with its words, and what it does
unfoldable pub usage_text : List ℕ
usage_text =
    codes "usage: tellcrock check SCHEMA\n"
    ++ codes "  prints how many types and fields a schema has, or which test it doesn't pass\n"
    ++ codes "usage: tellcrock price SCHEMA DOCUMENT [--variables FILE] [--operation NAME] [--unsized N] [--most-work N]\n"
    ++ codes "  prints the greatest type cost and the greatest field cost that a response can have\n"
    ++ codes "usage: tellcrock explain SCHEMA DOCUMENT [--variables FILE] [--operation NAME] [--unsized N] [--most-work N]\n"
    ++ codes "  prints what each node of an operation adds to its price, or why it is refused, where, and what helps\n"
    ++ codes "usage: tellcrock explain SCHEMA [--unsized N]\n"
    ++ codes "  prints what surprises in a schema where it is served, or why it is refused, where, and what helps\n"
    ++ codes "usage: tellcrock audit SCHEMA DOCUMENT.. [--variables-none] [--most TYPES FIELDS] [--unsized N] [--most-work N]\n"
    ++ codes "  prints what each operation of documents costs at most, or why it is refused, and whether all pass\n"
    ++ codes "usage: tellcrock introspect SCHEMA DOCUMENT [--variables FILE] [--operation NAME] [--most-work N]\n"
    ++ codes "  prints what the answer to an operation that asks for the schema costs, and the answer\n"
    ++ codes "usage: tellcrock worst SCHEMA DOCUMENT types|fields [--variables FILE] [--operation NAME] [--unsized N] [--most-work N]\n"
    ++ codes "  prints a response that costs as much as any\n"
    ++ codes "usage: tellcrock forward SCHEMA DOCUMENT [--variables FILE] [--operation NAME] [--unsized N] [--most-work N]\n"
    ++ codes "  prints the request that is sent on for an operation\n"
    ++ codes "usage: tellcrock meter SCHEMA DOCUMENT REPLY [--variables FILE] [--operation NAME] [--unsized N] [--most-work N]\n"
    ++ codes "  prints what a reply cost, and the answer for its client\n"
    ++ codes "usage: tellcrock replay SCHEMA CLIENTS SCRIPT [--trusted FILE [--trusted-only]] [--unsized N] [--most-work N]\n"
    ++ codes "  prints what becomes of each request of a script, and of the clients' accounts\n"
    ++ codes "usage: tellcrock serve SCHEMA CLIENTS --listen ADDR --upstream ADDR [--target PATH] [--workers N] [--connections N | --endless] [--idle N] [--stop FILE] [--journal FILE] [--trusted FILE [--trusted-only]] [--pass NAME].. [--hints] [--most-answer BYTES] [--unsized N] [--most-work N]\n"
    ++ codes "  serves clients over HTTP within their budgets, and forwards what they cover; prints the accounts at the end\n"
    ++ codes "usage: tellcrock exercise N\n"
    ++ codes "  prints a summary of a replay of N requests of one client\n"
    ++ codes "usage: tellcrock migrate CLIENTS\n"
    ++ codes "  prints a client file in the newest version of its format\n"
    ++ codes "usage: tellcrock --help\n"
    ++ codes "usage: tellcrock --version"

-- the program and its version
abbrev pub version_text : List ℕ
version_text = codes "tellcrock 1.0"

-- what is said of doors that were not started, or of which one failed
abbrev pub door_text : List ℕ
door_text = codes "door"
