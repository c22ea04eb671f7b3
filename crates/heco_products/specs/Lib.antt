pub mod KeyProducts
pub mod Encrypting
pub mod Decrypting
pub mod Results
pub mod Taken
