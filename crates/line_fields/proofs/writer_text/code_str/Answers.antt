use Rattle.std.proofs.lemmas.Str.{IsUtf8-from_ascii}
use Rattle.line_fields.proofs.writer_text.code_str.Goals as goal

pub from_utf8_unchecked-requires : goal.from_utf8_unchecked-requires
from_utf8_unchecked-requires g c = IsUtf8-from_ascii c.as_bytes-characters.result.now c.as_bytes-characters.ensures.ascii
