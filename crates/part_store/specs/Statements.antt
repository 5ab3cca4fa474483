-- Private: the texts of the statements.
use Rattle.std.specs.Prelude.{ℕ, List, codes}

abbrev pub find_user_text : List ℕ
find_user_text = codes "SELECT last, program FROM users WHERE user = ?1"

abbrev pub find_last_text : List ℕ
find_last_text = codes "SELECT last FROM users WHERE user = ?1"

abbrev pub drop_user_text : List ℕ
drop_user_text = codes "DELETE FROM users WHERE user = ?1"

abbrev pub add_user_text : List ℕ
add_user_text = codes "INSERT INTO users (user, last, program) VALUES (?1, ?2, ?3)"

abbrev pub renew_user_text : List ℕ
renew_user_text = codes "UPDATE users SET last = ?2 WHERE user = ?1"

abbrev pub list_programs_text : List ℕ
list_programs_text = codes "SELECT user, program FROM users WHERE program IS NOT NULL ORDER BY user"

abbrev pub list_users_text : List ℕ
list_users_text = codes "SELECT user, last, program FROM users ORDER BY user"

abbrev pub find_content_text : List ℕ
find_content_text = codes "SELECT octets FROM contents WHERE digest = ?1"

abbrev pub size_content_text : List ℕ
size_content_text = codes "SELECT length(octets) FROM contents WHERE digest = ?1"

abbrev pub list_contents_text : List ℕ
list_contents_text = codes "SELECT digest, length(octets) FROM contents ORDER BY digest"

abbrev pub add_content_text : List ℕ
add_content_text = codes "INSERT INTO contents (digest, octets) VALUES (?1, ?2)"

abbrev pub drop_content_text : List ℕ
drop_content_text = codes "DELETE FROM contents WHERE digest = ?1"

abbrev pub list_entries_text : List ℕ
list_entries_text = codes "SELECT number, kind, folder, name, media, digest FROM entries WHERE user = ?1 AND number > ?2 ORDER BY number"

abbrev pub find_entry_text : List ℕ
find_entry_text = codes "SELECT digest FROM entries WHERE user = ?1 AND number = ?2"

abbrev pub add_entry_text : List ℕ
add_entry_text = codes "INSERT INTO entries (user, number, folder, kind, name, media, digest) VALUES (?1, ?2, ?3, ?4, ?5, ?6, ?7)"

abbrev pub drop_entry_text : List ℕ
drop_entry_text = codes "DELETE FROM entries WHERE user = ?1 AND number = ?2"

abbrev pub users_text : List ℕ
users_text = codes "CREATE TABLE users (user TEXT PRIMARY KEY, last INTEGER NOT NULL, program BLOB) STRICT"

abbrev pub contents_text : List ℕ
contents_text = codes "CREATE TABLE contents (digest BLOB PRIMARY KEY, octets BLOB NOT NULL) STRICT"

abbrev pub entries_text : List ℕ
entries_text = codes "CREATE TABLE entries (user TEXT NOT NULL, number INTEGER NOT NULL, folder BLOB NOT NULL, kind INTEGER NOT NULL, name BLOB NOT NULL, media BLOB NOT NULL, digest BLOB NOT NULL REFERENCES contents, PRIMARY KEY (user, number)) STRICT"
