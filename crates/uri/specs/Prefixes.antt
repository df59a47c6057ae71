-- The abbreviations of the URI record, as the NFC Forum's URI record type definition has them. The first byte of a record's payload is a
-- code, and the code stands for the beginning of a URI, its prefix.
-- Assumes nothing.
use Rattle.std.specs.Prelude.{List, [], ◌∷◌, map, ℕ, get_or}
use Prim.Native.Char.{code}
use Prim.Native.String.{String, [] as ends, ◌∷◌ as ◌before◌}

-- the bytes of a text; each of its characters is ASCII here, so its code is its byte
abbrev pub bytes_of : String → List ℕ
bytes_of ends = []
bytes_of (c before text) = code c ∷ bytes_of text

-- codes 00h to 23h, in order
abbrev pub texts : List String
texts =
    ""
    ∷ "http://www."
    ∷ "https://www."
    ∷ "http://"
    ∷ "https://"
    ∷ "tel:"
    ∷ "mailto:"
    ∷ "ftp://anonymous:anonymous@"
    ∷ "ftp://ftp."
    ∷ "ftps://"
    ∷ "sftp://"
    ∷ "smb://"
    ∷ "nfs://"
    ∷ "ftp://"
    ∷ "dav://"
    ∷ "news:"
    ∷ "telnet://"
    ∷ "imap:"
    ∷ "rtsp://"
    ∷ "urn:"
    ∷ "pop:"
    ∷ "sip:"
    ∷ "sips:"
    ∷ "tftp:"
    ∷ "btspp://"
    ∷ "btl2cap://"
    ∷ "btgoep://"
    ∷ "tcpobex://"
    ∷ "irdaobex://"
    ∷ "file://"
    ∷ "urn:epc:id:"
    ∷ "urn:epc:tag:"
    ∷ "urn:epc:pat:"
    ∷ "urn:epc:raw:"
    ∷ "urn:epc:"
    ∷ "urn:nfc:"
    ∷ []

-- how many codes there are
abbrev pub codes : ℕ
codes = 36

unfoldable pub prefixes : List (List ℕ)
prefixes = map bytes_of texts

-- the prefix that a code stands for
abbrev pub prefix : ℕ → List ℕ
prefix c = get_or prefixes c []
